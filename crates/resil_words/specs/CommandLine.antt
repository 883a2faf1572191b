-- What the program's words request.
use Rattle.std.specs.Prelude.{ℕ, ◌≡◌, ◌≤◌, ◌++◌, pos, Bool, true, false, List, [], ◌∷◌, Option, Some, None, codes, if◌then◌else◌, option_map, option_and_then}
use Rattle.std.specs.Option.{option_map_or}
use Rattle.std.specs.Str.Parse.{digits_value, without_leading_plus}
use Rattle.clap.specs.Simple.{on_top}
use Rattle.clap.specs.ValueTests.{is_unsigned_in}
use Rattle.clap.specs.Walk.{is_empty}
use Rattle.clap.specs.Words.{App, Row, Rule, Shape, Text, fault_of, matches_of, new_app, new_rule, one_of, with_rule, with_subcommand}
use Rattle.clap.specs.declared.builder.action.ArgAction.TheVariants as action
use Rattle.clap.specs.declared.builder.value_parser.ValueParser.TheVariants as parser
use Rattle.resil_input.specs.TextEquality.{is_same}
use Rattle.resil_words.specs.declared.command_line.Request.{Request}
use Rattle.resil_words.specs.declared.command_line.Request.TheVariants as request
use Rattle.resil_words.specs.declared.command_line.RunOptions.{RunOptions}
use Rattle.resil_words.specs.declared.command_line.Single.{Single}
use Rattle.resil_words.specs.declared.command_line.Single.TheVariants.{Replay, Audit, Chain, Weave}

-- nothing follows a command but perhaps `--`, which ends the words that could be flags
abbrev pub is_end : List Text → Bool
is_end [] = true
is_end (word ∷ []) = is_same word (codes "--")
is_end (word ∷ next ∷ rest) = false

-- the command that one thread carries out, by its name
abbrev pub single_from_name : Text → Option Single
single_from_name command =
    if is_same (codes "replay") command then Some Replay
    else if is_same (codes "audit") command then Some Audit
    else if is_same (codes "chain") command then Some Chain
    else if is_same (codes "weave") command then Some Weave
    else None

-- the flag `--hold`
abbrev pub hold_flag : Rule
hold_flag = record (new_rule (codes "hold")) { long = Some (codes "hold"); action = Some action.SetTrue }

-- the option `--callers`, a number from 1 to 64, which is 1 if it isn't given
abbrev pub callers_option : Rule
callers_option = record (new_rule (codes "callers")) {
  long = Some (codes "callers");
  action = Some action.Set;
  parser = Some (parser.Signed (pos 1) (pos 64));
  defaults = codes "1" ∷ [];
}

-- a command that doesn't show help
abbrev pub shows_no_help : Shape → Shape
shows_no_help s = record s { disable_help_flag = true }

-- `run` with its flag and its option, as `clap` reads it
abbrev pub run_command : App
run_command = with_rule (with_rule (on_top shows_no_help (new_app (codes "run"))) hold_flag) callers_option

-- whether the flag `--hold` was given, by what was found for it
abbrev pub hold_of : List Row → Bool
hold_of rows = option_map_or (is_same (codes "true")) (one_of (codes "hold") rows) false

-- the number from 1 to 64 that a text of `--callers` writes
abbrev pub number_read : Text → Option ℕ
number_read text = if is_unsigned_in 1 64 text then Some (digits_value 10 (without_leading_plus text)) else None

-- the number of callers, by what was found for `--callers`
abbrev pub callers_of : List Row → Option ℕ
callers_of rows = option_and_then number_read (one_of (codes "callers") rows)

-- the options of `run`, by what was found for its flag and its option
abbrev pub run_options : List Row → Option RunOptions
run_options rows = option_map (λ callers. record { hold = hold_of rows; callers = callers }) (callers_of rows)

-- The options of `run` in its own name and the words after it. `clap` says which of them it
-- refuses, and what it found for the flag and the option in the others.
abbrev pub run_of : List Text → Option RunOptions
run_of words = if is_empty (fault_of run_command words) then run_options (matches_of run_command words) else None

-- What the words request: the program's name, a command, and the end, or the name, `run` and its
-- options. Other words are refused.
abbrev pub request_of : List Text → Option Request
request_of [] = None
request_of (name ∷ []) = None
request_of (name ∷ command ∷ rest) =
    if is_same (codes "run") command then option_map request.Run (run_of (command ∷ rest))
    else if is_end rest then option_map request.Single (single_from_name command)
    else None

-- if the request is `run`, its number of callers is from 1 to 64
abbrev pub HasFewCallers : Request → Type 0
HasFewCallers (request.Single command) = Unit {0}
HasFewCallers (request.Run words) = (1 ≤ words.callers) × (words.callers ≤ 64)

-- the words name `run`
abbrev pub IsRun : Option Request → Type 0
IsRun requested = (words : RunOptions) × (requested ≡ Some (request.Run words))

-- the command that the words request, if one thread carries it out
abbrev pub single_of : Option Request → Option Single
single_of None = None
single_of (Some (request.Single command)) = Some command
single_of (Some (request.Run words)) = None

-- one of the subcommands has to be named, and none of the words shows help
abbrev pub asks_for_command : Shape → Shape
asks_for_command s = record s {
  subcommand_required = true;
  disable_help_flag = true;
  disable_help_subcommand = true;
}

-- the program's command with the commands that one thread carries out
abbrev pub single_commands : App
single_commands =
    let replay = with_subcommand (on_top asks_for_command (new_app (codes "resil"))) (new_app (codes "replay")).top in
    let audit = with_subcommand replay (new_app (codes "audit")).top in
    let chain = with_subcommand audit (new_app (codes "chain")).top in
    with_subcommand chain (new_app (codes "weave")).top

-- the program's command, as `clap` reads it
abbrev pub program : App
program = with_subcommand single_commands run_command.top

-- the request of the subcommand that `clap` met, by its name and what was found for its arguments
abbrev pub request_of_match : Text × List Row → Option Request
request_of_match p =
    if is_same (codes "run") p.0 then option_map request.Run (run_options p.1)
    else option_map request.Single (single_from_name p.0)

-- what the words ask for if they come after `run`
abbrev pub behind_run : List Text → Option Request
behind_run rest = request_of (codes "resil" ∷ codes "run" ∷ rest)

-- the request of `run` with these options
abbrev pub run_request : Bool → ℕ → Option Request
run_request hold callers = Some (request.Run (record { hold = hold; callers = callers }))

-- The flag and the option of `run`: in either order, the number as a word of its own or after `=`, each at most once, and a number from 1
-- to 64.
abbrev pub RunExamples : Type 0
RunExamples = (behind_run [] ≡ run_request false 1)
    × (behind_run (codes "--hold" ∷ codes "--" ∷ []) ≡ run_request true 1)
    × (behind_run (codes "--callers" ∷ codes "7" ∷ []) ≡ run_request false 7)
    × (behind_run (codes "--callers" ∷ codes "64" ∷ codes "--hold" ∷ []) ≡ run_request true 64)
    × (behind_run (codes "--hold" ∷ codes "--callers=+007" ∷ []) ≡ run_request true 7)
    × (behind_run (codes "--callers" ∷ codes "0" ∷ []) ≡ None)
    × (behind_run (codes "--callers" ∷ codes "65" ∷ []) ≡ None)
    × (behind_run (codes "--callers" ∷ codes "x" ∷ []) ≡ None)
    × (behind_run (codes "--callers" ∷ []) ≡ None)
    × (behind_run (codes "--hold" ∷ codes "--hold" ∷ []) ≡ None)
    × (behind_run (codes "--callers=7" ∷ codes "--callers=7" ∷ []) ≡ None)
    × (behind_run (codes "--help" ∷ []) ≡ None)

-- The number of callers is from 1 to 64.
abbrev pub FewCallers : Type 0
FewCallers = (text : Text) → behind_run ((codes "--callers=" ++ text) ∷ [])
    ≡ (if is_unsigned_in 1 64 text then run_request false (digits_value 10 (without_leading_plus text)) else None)
