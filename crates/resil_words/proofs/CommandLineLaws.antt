-- Which words `clap` accepts of a command without arguments.
use Rattle.std.proofs.Common.{◌≡◌, ◌<◌, ◌^◌, ◌∙◌, ◌&&◌, ◌∷◌, unwrap_or, ℕ, zero, suc, Bool, true, false, List, [], Option, Some, None, length, slice_get, refl, sym, ap, subst, codes, if◌then◌else◌, option_map, option_and_then, nat_le, nat_lt, is_some, find, fold, ◌==◌, arith, inl, inr}
use Rattle.std.proofs.Math.Bool.{and-true}
use Rattle.std.proofs.lemmas.Bool.{eqb-true}
use Rattle.std.proofs.lemmas.Bool.Decides.{nat_tests}
use Rattle.std.proofs.lemmas.Grind.{common_steps}
use Rattle.std.proofs.lemmas.Int.{ints}
use Rattle.std.proofs.lemmas.Str.Parse.{digit_from_value}
use Rattle.std.specs.Prelude.{pos, ◌≤ℤ◌}
use Rattle.clap.proofs.OnLiterals.{clap_on_literals}
use Rattle.std.specs.Option.{option_map_or}
use Rattle.std.specs.Str.{bytes_eq, chars}
use Rattle.std.proofs.lemmas.Slice.Eq.{bytes_eq-Decides}
use Rattle.clap.proofs.FaultLemmas.{leaf_fault, stopped_fault}
use Rattle.clap.proofs.WalkLemmas.{both, one_text-rows, walk_stopped}
use Rattle.clap.specs.Faults.{bundle_fault, bundle_step_fault, check_fault, defaults_fault, entered_fault, fault_of, flag_word_fault, flags_fault, is_simple_and_free, level_fault, other_fault, settle_fault, step_fault, stray_fault, turn_fault, walk_fault}
use Rattle.clap.specs.Kinds.{HasKind, IsAmong, Kinds, or_else}
use Rattle.clap.specs.Lexer.{long_of, short_of, without_minus}
use Rattle.clap.specs.Simple.{App, Shape, built, entered, label_of, new_shape}
use Rattle.clap.specs.Walk.{Held, Names, Outcome, Step, Text, Walk, after_flag, answers_to, bundle_met, bundle_step, finished, idle, is_empty, long_or_other, nothing_held, plain, rows_after, settled, short_or_plain, subcommand_met, subcommand_or_other, walk, walk_from, walked}
use Rattle.clap.specs.Values.{IsSignedIn, IsUnsignedIn, kind_of}
use Rattle.clap.specs.declared.error.Error.{Error}
use Rattle.clap.specs.declared.error.kind.ErrorKind.{ErrorKind}
use Rattle.clap.specs.declared.error.kind.ErrorKind.TheVariants.{OutOfMemory}
use Rattle.clap.specs.Words.{ReadsOne, Row, one_of, one_text, rows_of, subcommand_name_of, subcommand_of, subcommand_rows_of}
use Rattle.clap.specs.declared.parser.matches.ArgMatches.{ArgMatches}
use Rattle.clap.specs.declared.parser.matches.Found.{Found}
use Rattle.clap.specs.ValueTests.{is_numeral, is_signed_in, is_unsigned_in}
use Rattle.clap.proofs.ValueTestLemmas.{Accepts-accepts, accepts-Accepts}
use Rattle.clap.specs.declared.builder.value_parser.ValueParser.TheVariants as parser
use Rattle.std.specs.Str.Parse.{AllDigits, ExplainsUnsignedError, HasUnsignedDigitsIfOk, IsNumeral, starts_with_minus, ParsesBool, ParsesUnsigned, digits_value, false_text, true_text, without_leading_plus}
use Rattle.resil_input.specs.TextEquality.{is_same}
use Rattle.resil_words.specs.CommandLine.{FewCallers, callers_of, hold_of, is_end, number_read, program, request_of_match, request_of, run_command, run_options}
use Rattle.resil_words.specs.declared.command_line.Request.{Request}
use Rattle.resil_words.specs.declared.command_line.Request.TheVariants as request
use Rattle.resil_words.specs.declared.command_line.RunOptions.{RunOptions}

is_empty-or_else : (a b : Kinds) → is_empty (or_else a b) ≡ (is_empty a && is_empty b)
is_empty-or_else [] b = refl
is_empty-or_else (k ∷ ks) b = let some : (suc (length ks) == 0) ≡ false = grind (arith, common_steps) in rw some refl

by_test : {P : Type 0} (b : Bool) → (b ≡ true → P) → (b ≡ false → P) → P
by_test true met unmet = met refl
by_test false met unmet = unmet refl

never : (b : Bool) → ◌≡◌ {A = Option Request} (if b then None else None) None
never true = refl
never false = refl

-- without arguments nothing that waits for a value is refused
none_waits : (pending : Option (Text × List Text)) → is_empty (or_else (settle_fault [] false (record nothing_held { pending = pending })) []) ≡ true
none_waits None = refl
none_waits (Some p) = refl

-- a command without arguments
module _ (s : Shape) where
  abbrev bare : Shape
  bare = record s { rules = [] }

  -- a word that nothing takes
  stray : is_empty (stray_fault bare) ≡ false
  stray = elim s.is_leaf as (λ leaf. is_empty (stray_fault (record bare { is_leaf = leaf })) ≡ false) [ true ↦ refl | false ↦ refl ]

  -- what becomes of a word after its flags were looked at
  abbrev taken : Text → Held × Outcome → Held × Step
  taken word met = after_flag [] idle word met.0 met.1

  bundle_refused : (word flags : Text) (n : ℕ)
      → is_empty (or_else (flags_fault [] s.args_override_self n flags 0 nothing_held)
      (step_fault bare 1 (taken word (bundle_met [] n flags 0 plain nothing_held)).0 (taken word (bundle_met [] n flags 0 plain nothing_held)).1)) ≡ false
  unfolding flags_fault bundle_met
  bundle_refused word flags zero = stray
  bundle_refused word flags (suc n) =
      elim (slice_get (chars flags) 0) as (λ o. is_empty (or_else (bundle_step_fault [] s.args_override_self o flags 0 nothing_held (flags_fault [] s.args_override_self n))
      (step_fault bare 1 (taken word (bundle_step [] o flags 0 plain nothing_held (bundle_met [] n))).0 (taken word (bundle_step [] o flags 0 plain nothing_held (bundle_met [] n))).1)) ≡ false)
      [ None ↦ stray | Some x ↦ refl ]

  short_refused : (word : Text) (short : Option Text)
      → is_empty (or_else (option_map_or (λ flags. bundle_fault [] s.args_override_self flags nothing_held) short [])
      (step_fault bare 1 (short_or_plain [] idle word short nothing_held).0 (short_or_plain [] idle word short nothing_held).1)) ≡ false
  short_refused word None = stray
  short_refused word (Some flags) = bundle_refused word flags (length flags)

  -- what refuses a word, where o is the subcommand that it names
  abbrev refusal : Text → Option Text → Kinds
  refusal word o = or_else (other_fault bare o word nothing_held)
      (step_fault bare 1 (subcommand_or_other [] o idle 1 word nothing_held).0 (subcommand_or_other [] o idle 1 word nothing_held).1)

  -- a word that is neither a subcommand nor `--`
  word_refused : (word : Text) → bytes_eq word (45 ∷ 45 ∷ []) ≡ false → is_empty (refusal word None) ≡ false
  word_refused word other =
      rw other (elim (long_of word) as (λ o. is_empty (or_else (flag_word_fault [] s.args_override_self o word nothing_held)
      (step_fault bare 1 (long_or_other [] idle word o nothing_held).0 (long_or_other [] idle word o nothing_held).1)) ≡ false)
      [ Some p ↦ refl | None ↦ short_refused word (short_of word) ])

  module _ (names : Names) where
    -- the walk after `--`
    abbrev past_end : Walk
    past_end = record (walk_from nothing_held) { is_trailing = true }

    rest_refused : (word : Text) (rest : List Text) → is_empty (walk_fault bare names past_end (word ∷ rest)) ≡ false
    unfolding walk_fault
    rest_refused word rest = is_empty-or_else (turn_fault bare names past_end word) (walk_fault bare names (walked [] names past_end word) rest) ∙ rw stray refl

    ended : subcommand_met names idle (codes "--") ≡ None → (rest : List Text)
        → is_empty (walk_fault bare names (walk_from nothing_held) (codes "--" ∷ rest)) ≡ is_end (codes "--" ∷ rest)
    unfolding walk_fault walked
    ended none [] = rw none refl
    ended none (word ∷ rest) = rw none (rest_refused word rest)

    unended : (word : Text) (rest : List Text) → subcommand_met names idle word ≡ None → bytes_eq word (codes "--") ≡ false
        → is_empty (walk_fault bare names (walk_from nothing_held) (word ∷ rest)) ≡ false
    unfolding walk_fault
    unended word rest none other =
        let turn : is_empty (turn_fault bare names (walk_from nothing_held) word) ≡ false = ap (λ o. is_empty (refusal word o)) none ∙ word_refused word other in
        is_empty-or_else (turn_fault bare names (walk_from nothing_held) word) (walk_fault bare names (walked [] names (walk_from nothing_held) word) rest) ∙ rw turn refl

    -- a first word that is no subcommand
    walk_fault-first : (word : Text) (rest : List Text) → subcommand_met names idle word ≡ None
        → is_empty (walk_fault bare names (walk_from nothing_held) (word ∷ rest)) ≡ is_end (word ∷ rest)
    walk_fault-first word rest none = by_test (bytes_eq word (codes "--"))
        (λ same. let is : word ≡ codes "--" = (bytes_eq-Decides word (codes "--")).0 same in
        subst (λ w. subcommand_met names idle w ≡ None → is_empty (walk_fault bare names (walk_from nothing_held) (w ∷ rest)) ≡ is_end (w ∷ rest)) (sym is) (λ n. ended n rest) none)
        (λ other. unended word rest none other ∙ sym (unended_end rest other))
      where
        unended_end : (rest : List Text) → bytes_eq word (codes "--") ≡ false → is_end (word ∷ rest) ≡ false
        unended_end [] other = other
        unended_end (next ∷ rest) other = refl

-- ---- the program's command, as it is built

-- a subcommand
abbrev built_sub : Text → Shape
built_sub name = record (new_shape name) { disable_help_flag = true; disable_help_subcommand = true; is_built = true }

abbrev program_shape : Shape
program_shape = record (new_shape (codes "resil")) {
  is_leaf = false;
  disable_help_flag = true;
  disable_help_subcommand = true;
  subcommand_required = true;
  is_built = true;
}

abbrev sub_names : Names
sub_names = (codes "replay", []) ∷ (codes "audit", []) ∷ (codes "chain", []) ∷ (codes "weave", []) ∷ (codes "run", []) ∷ []

-- `run`, with its flag and its option
abbrev built_run : Shape
built_run = (built run_command).top

-- the words after a command without arguments
level_fault-sub : (name : Text) (rest : List Text) → is_empty (level_fault (built_sub name) [] nothing_held rest false []) ≡ is_end rest
unfolding walk_fault defaults_fault
level_fault-sub name [] = refl
level_fault-sub name (word ∷ rest) =
    let walked_over = walk_fault (built_sub name) [] (walk_from nothing_held) (word ∷ rest) in
    is_empty-or_else walked_over (or_else (settle_fault [] false (walk [] [] nothing_held (word ∷ rest)).held) [])
    ∙ ap (λ b. is_empty walked_over && b) (none_waits (walk [] [] nothing_held (word ∷ rest)).held.pending)
    ∙ and-true (is_empty walked_over) ∙ walk_fault-first (built_sub name) [] word rest refl

-- what the words request by `clap`: it refuses none of them, and meets a subcommand
abbrev pub clap_request : List Text → Option Request
clap_request words = if is_empty (fault_of program words) then option_and_then request_of_match (subcommand_of program words) else None

-- a command that the walk over the words meets at once, and the words after it
module _ (command : Text) (sub : Shape) (met : ◌≡◌ {A = Walk} (walked [] sub_names (walk_from nothing_held) command) (record (walk_from nothing_held) { stopped = Some (command, []) }))
    (allowed : turn_fault program_shape sub_names (walk_from nothing_held) command ≡ []) (found : find (λ s. answers_to command (label_of s)) (built program).subs ≡ Some sub)
    (rest : List Text) where
  abbrev sub_met : Walk
  sub_met = record (walk_from nothing_held) { stopped = Some (command, rest) }

  walk-sub : ◌≡◌ {A = Walk} (walk [] sub_names nothing_held (command ∷ rest)) sub_met
  walk-sub = ap (λ (w : Walk). fold (walked [] sub_names) w rest) met ∙ sym (walk_stopped [] sub_names (walk_from nothing_held) command [] rest)

  walk_fault-sub : walk_fault program_shape sub_names (walk_from nothing_held) (command ∷ rest) ≡ []
  unfolding walk_fault
  walk_fault-sub = rw (allowed, met) (stopped_fault program_shape sub_names (walk_from nothing_held) (command, []) rest)

  -- what refuses the command and the words after it, by where the walk over them ends
  abbrev fault_at : Walk → Kinds
  fault_at end = or_else (walk_fault program_shape sub_names (walk_from nothing_held) (command ∷ rest))
      (or_else (entered_fault (built program) end.stopped) (or_else (settle_fault [] false end.held)
      (or_else (defaults_fault (settled [] end.held).rows []) (check_fault program_shape (finished [] end.held) (is_some (entered (built program) end.stopped))))))

  fault_of-sub : (name : Text) → is_empty (fault_of program (name ∷ command ∷ rest)) ≡ is_empty (level_fault sub [] nothing_held rest false [])
  unfolding defaults_fault
  fault_of-sub name =
      ap (λ end. is_empty (fault_at end)) walk-sub ∙ rw (walk_fault-sub, found) (is_empty-or_else (level_fault sub [] nothing_held rest false []) []
      ∙ and-true (is_empty (level_fault sub [] nothing_held rest false [])))

  clap_request-sub : (name : Text)
      → clap_request (name ∷ command ∷ rest) ≡ (if is_empty (level_fault sub [] nothing_held rest false []) then request_of_match (sub.name, rows_after sub.rules [] rest) else None)
  clap_request-sub name =
      rw (fault_of-sub name) (ap (λ (end : Walk). if is_empty (level_fault sub [] nothing_held rest false []) then option_and_then request_of_match (entered (built program) end.stopped) else None) walk-sub
      ∙ rw found refl)

-- a command without arguments
module _ (command : Text) (met : ◌≡◌ {A = Walk} (walked [] sub_names (walk_from nothing_held) command) (record (walk_from nothing_held) { stopped = Some (command, []) }))
    (allowed : turn_fault program_shape sub_names (walk_from nothing_held) command ≡ []) (found : find (λ s. answers_to command (label_of s)) (built program).subs ≡ Some (built_sub command))
    (other : is_same (codes "run") command ≡ false) where
  clap_request-single : (name : Text) (rest : List Text) → clap_request (name ∷ command ∷ rest) ≡ request_of (name ∷ command ∷ rest)
  clap_request-single name rest = clap_request-sub command (built_sub command) met allowed found rest name
      ∙ rw (level_fault-sub command rest, other) refl

-- `run`, with its options
clap_request-run : (name : Text) (rest : List Text) → clap_request (name ∷ codes "run" ∷ rest) ≡ request_of (name ∷ codes "run" ∷ rest)
unfolding walked
clap_request-run name rest =
    let told = run_options (rows_after built_run.rules [] rest) in
    clap_request-sub (codes "run") built_run refl refl refl rest name
    ∙ run_if (is_empty (level_fault built_run [] nothing_held rest false [])) told
    ∙ ap (λ kinds. option_map request.Run (if is_empty kinds then told else None)) (sym (leaf_fault (built run_command) nothing_held rest refl))
  where
    run_if : (b : Bool) (told : Option RunOptions) → (if b then option_map request.Run told else None) ≡ option_map request.Run (if b then told else None)
    run_if true told = refl
    run_if false told = refl

-- a word that is no command
module _ (name word : Text) (no_command : subcommand_met sub_names idle word ≡ None) where
  fault_of-unended : (rest : List Text) → is_end (word ∷ rest) ≡ false → is_empty (fault_of program (name ∷ word ∷ rest)) ≡ false
  fault_of-unended rest unended =
      is_empty-or_else (walk_fault program_shape sub_names (walk_from nothing_held) (word ∷ rest)) _
      ∙ rw (walk_fault-first program_shape sub_names word rest no_command, unended) refl

  fault_of-other : (rest : List Text) → is_empty (fault_of program (name ∷ word ∷ rest)) ≡ false
  unfolding walk_fault walked defaults_fault
  fault_of-other [] = by_test (bytes_eq word (codes "--"))
      (λ same. subst (λ w. is_empty (fault_of program (name ∷ w ∷ [])) ≡ false) (sym ((bytes_eq-Decides word (codes "--")).0 same)) refl)
      (λ unended. fault_of-unended [] unended)
  fault_of-other (next ∷ rest) = fault_of-unended (next ∷ rest) refl

-- what `clap` makes of the words is what they request
pub clap_request-is : (words : List Text) → clap_request words ≡ request_of words
unfolding walk_fault walked defaults_fault
clap_request-is [] = refl
clap_request-is (name ∷ []) = refl
clap_request-is (name ∷ word ∷ rest) =
    at_command (codes "replay") (clap_request-single (codes "replay") refl refl refl refl name rest) (λ no_replay.
    at_command (codes "audit") (clap_request-single (codes "audit") refl refl refl refl name rest) (λ no_audit.
    at_command (codes "chain") (clap_request-single (codes "chain") refl refl refl refl name rest) (λ no_chain.
    at_command (codes "weave") (clap_request-single (codes "weave") refl refl refl refl name rest) (λ no_weave.
    at_command (codes "run") (clap_request-run name rest) (λ no_run.
    rw (fault_of-other name word (rw (no_replay, no_audit, no_chain, no_weave, no_run) refl) rest, no_replay, no_audit, no_chain, no_weave, no_run) (sym (never (is_end rest))))))))
  where
    -- the word is this command, or another
    at_command : (command : Text) → clap_request (name ∷ command ∷ rest) ≡ request_of (name ∷ command ∷ rest)
        → (bytes_eq command word ≡ false → clap_request (name ∷ word ∷ rest) ≡ request_of (name ∷ word ∷ rest)) → clap_request (name ∷ word ∷ rest) ≡ request_of (name ∷ word ∷ rest)
    at_command command here other = by_test (bytes_eq command word)
        (λ same. subst (λ w. clap_request (name ∷ w ∷ rest) ≡ request_of (name ∷ w ∷ rest)) ((bytes_eq-Decides command word).0 same) here) other

some_kind : (kind : ErrorKind) (kinds : Kinds) → IsAmong kind kinds → is_empty kinds ≡ false
some_kind kind [] among = absurd among
some_kind kind (k ∷ ks) among = grind (arith, common_steps)

-- words that `clap` refuses for another reason than memory
pub request_of-refused : (command : App) (words : List Text) (e : Error) → command ≡ program → (is_simple_and_free command ≡ true → HasKind (fault_of command words) e)
    → (kind_of e ≡ OutOfMemory → ⊥) → request_of words ≡ None
request_of-refused command words e is told other =
    let kinds = subst (λ app. is_simple_and_free app ≡ true → HasKind (fault_of app words) e) is told in
    refused (kinds refl)
  where
    refused : HasKind (fault_of program words) e → request_of words ≡ None
    refused (inl memory) = absurd (other memory)
    refused (inr among) =
        let some : is_empty (fault_of program words) ≡ false = some_kind _ _ among in
        sym (clap_request-is words) ∙ rw some refl

-- ---- what is read of the flag and the option of `run`

-- the flag, where `get_one` reads a `bool` of its text
hold-read : (E : Type 0) (text : Option Text) (read : Option Bool) → (text ≡ None → read ≡ None) → ((t : Text) → text ≡ Some t → ReadsOne {E = E} ParsesBool t read)
    → unwrap_or read false ≡ option_map_or (is_same (codes "true")) text false
hold-read E None read none some = rw (none refl) refl
hold-read E (Some t) (Some true) none some = let is : t ≡ true_text = some t refl in rw is refl
hold-read E (Some t) (Some false) none some = let is : t ≡ false_text = some t refl in rw is refl
hold-read E (Some t) None none some =
    let refused = some t refl in
    by_test (bytes_eq (codes "true") t) (λ same. absurd (refused.1.0 (sym ((bytes_eq-Decides (codes "true") t).0 same)))) (λ other. sym other)

-- the option, where `get_one` reads a `u16` of its text
abbrev Reads : Option Text → Option ℕ → Type 0
Reads text read = (text ≡ None → read ≡ None)
    × ((t : Text) → text ≡ Some t → ReadsOne (λ bs r. ParsesUnsigned 16 10 bs r × ExplainsUnsignedError 10 bs r × HasUnsignedDigitsIfOk bs r) t read)

callers-read : (text : Option Text) (read : Option ℕ) → Reads text read
    → option_and_then (λ n. if nat_le 1 n && nat_le n 64 then Some n else None) read ≡ option_and_then number_read text
callers-read None read reads = rw (reads.0 refl) refl
callers-read (Some t) None reads = by_test (is_unsigned_in 1 64 t)
    (λ few. let is = accepts-Accepts false (parser.Unsigned 1 64) t few in absurd ((reads.1 t refl).1.0 (is.0, omega (arith, is.3))))
    (λ other. rw other refl)
callers-read (Some t) (Some n) reads =
    let value : ℕ = digits_value 10 (without_leading_plus t) in
    let parsed = (reads.1 t refl).0 in
    let accepted : is_unsigned_in 0 65535 t ≡ true =
    Accepts-accepts false (parser.Unsigned 0 65535) t (parsed.0.0, omega (arith, parsed.0.1), omega arith, omega (arith, parsed.0.1)) in
    let parts : (is_numeral (without_leading_plus t) ≡ true) × ((nat_lt value (2 ^ 64) && (nat_le 0 value && nat_le value 65535)) ≡ true) = both (is_numeral (without_leading_plus t)) (nat_lt value (2 ^ 64) && (nat_le 0 value && nat_le value 65535)) accepted in
    let small : nat_lt value (2 ^ 64) ≡ true = grind (arith, nat_tests, parsed.0.1) in
    rw (parsed.1, parts.0, small) refl

-- both, by what was found for them
module _ (found : Found) where
  pub hold-found : (E : Type 0) (read : Option Bool) → (one_text found (codes "hold") ≡ None → read ≡ None)
      → ((t : Text) → one_text found (codes "hold") ≡ Some t → ReadsOne {E = E} ParsesBool t read) → unwrap_or read false ≡ hold_of (rows_of found)
  hold-found E read none some =
      let same = one_text-rows found (codes "hold") in
      hold-read E (one_of (codes "hold") (rows_of found)) read (λ is. none (same ∙ is)) (λ t is. some t (same ∙ is))

  pub callers-found : (read : Option ℕ) → Reads (one_text found (codes "callers")) read
      → option_and_then (λ n. if nat_le 1 n && nat_le n 64 then Some n else None) read ≡ callers_of (rows_of found)
  callers-found read reads = callers-read (one_of (codes "callers") (rows_of found)) read (rw (one_text-rows found (codes "callers")) at reads)

-- ---- the number of callers

bool_iff : (a b : Bool) → (a ≡ true → b ≡ true) → (b ≡ true → a ≡ true) → a ≡ b
bool_iff true b there back = sym (there refl)
bool_iff false true there back = back refl
bool_iff false false there back = refl

-- digits begin with no minus
no_minus : (text : Text) → IsNumeral 10 (without_leading_plus text) → starts_with_minus text ≡ false
no_minus [] numeral = absurd (omega (arith, numeral.0))
no_minus (x ∷ xs) numeral = by_test (x == 45)
    (λ same. let digits : AllDigits 10 (45 ∷ xs) = rw (eqb-true x 45 same) at numeral.1 in
    let digit = digit_from_value 45 digits.0 in
    absurd (omega (arith, digit)))
    (λ other. other)

without_minus-none : (text : Text) → starts_with_minus text ≡ false → without_minus text ≡ text
without_minus-none [] none = refl
without_minus-none (x ∷ xs) none = rw none refl

module _ (text : Text) where
  signed_up : IsSignedIn (pos 1) (pos 64) text → (b : Bool) → starts_with_minus text ≡ b → is_unsigned_in 1 64 text ≡ true
  signed_up is true minus =
      let low = rw minus at is.2 in
      absurd (omega (arith, ints))
  signed_up is false minus =
      let numeral : IsNumeral 10 (without_leading_plus text) = rw minus at is.0 in
      let low = rw minus at is.2 in
      let high = rw minus at is.3 in
      Accepts-accepts false (parser.Unsigned 1 64) text (numeral, omega (arith, ints), omega (arith, ints), omega (arith, ints))

  signed_down : IsUnsignedIn 1 64 text → is_signed_in (pos 1) (pos 64) text ≡ true
  signed_down is =
      let fits : digits_value 10 (without_leading_plus text) < 2 ^ 63 = omega (arith, is.3) in
      let low : pos 1 ≤ℤ pos (digits_value 10 (without_leading_plus text)) = omega (arith, ints, is.2) in
      let high : pos (digits_value 10 (without_leading_plus text)) ≤ℤ pos 64 = omega (arith, ints, is.3) in
      Accepts-accepts false (parser.Signed (pos 1) (pos 64)) text (rw (no_minus text is.0) (is.0, record { sfits = fits }, low, high))

  -- the two ways to read a number from 1 to 64 are one
  signed-unsigned : is_signed_in (pos 1) (pos 64) text ≡ is_unsigned_in 1 64 text
  signed-unsigned = bool_iff _ _ (λ same. signed_up (accepts-Accepts false (parser.Signed (pos 1) (pos 64)) text same) (starts_with_minus text) refl)
      (λ same. signed_down (accepts-Accepts false (parser.Unsigned 1 64) text same))

  number_read-callers : is_unsigned_in 1 64 text ≡ true → number_read (without_minus text) ≡ Some (digits_value 10 (without_leading_plus text))
  number_read-callers same =
      let is = accepts-Accepts false (parser.Unsigned 1 64) text same in
      rw (without_minus-none text (no_minus text is.0), same) refl

pub few_callers : FewCallers
unfolding clap_on_literals
few_callers text = by_test (is_unsigned_in 1 64 text)
    (λ few. rw (few, signed-unsigned text ∙ few, number_read-callers text few) refl)
    (λ other. rw (other, signed-unsigned text ∙ other) refl)

-- what was met, by its name and its rows
pub met_both : {A B : Type 0} (met : Option (A × B)) (a : A) (b : B) → Some a ≡ option_map (λ p. p.0) met → Some b ≡ option_map (λ p. p.1) met → met ≡ Some (a, b)
met_both None a b first second = absurd (cc first)
met_both (Some p) a b first second = let one : a ≡ p.0 = cc first in let two : b ≡ p.1 = cc second in rw (one, two) refl

fst_map : {X A B : Type 0} (f : X → A) (g : X → B) (met : Option X) → option_map f met ≡ option_map (λ (p : A × B). p.0) (option_map {U = A × B} (λ x. (f x, g x)) met)
fst_map f g None = refl
fst_map f g (Some x) = refl

-- the name that was met, with its rows
pub name_met : (m : ArgMatches) → subcommand_name_of m ≡ option_map (λ (p : Text × List Row). p.0) (subcommand_rows_of m)
name_met m = fst_map _ _ _
