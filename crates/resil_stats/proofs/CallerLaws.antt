-- The numbers of the callers of a history of the whole rule, with one more event.
use Rattle.std.proofs.Common.{◌≡◌, ◌<◌, ◌+◌, ◌^◌, ◌==◌, ◌∷◌, [], ◌++◌, ◌∙◌, ℕ, cond, Bool, true, false, List, Option, Some, None, if◌then◌else◌, length, refl, sym, ap, unwrap_or, arith, length-append}
use Rattle.std.proofs.lemmas.Grind.{common_steps}
use Rattle.std.proofs.lemmas.List.Elements.{filter_map-append, filter-append}
use Rattle.std.specs.BTreeMap.{BTreeMap, Updates}
use Rattle.std.specs.BTreeMap as tree
use Rattle.std.specs.Ordering.{is_eq, nat_cmp}
use Rattle.resil_rule.specs.declared.event.Id.{Id}
use Rattle.resil_jdk.specs.History.{is_submit_of, submissions}
use Rattle.resil_jdk.specs.declared.event.JdkReply.{JdkReply}
use Rattle.resil_jdk.specs.declared.event.JdkEvent.{JdkEvent}
use Rattle.resil_jdk.specs.declared.event.JdkEvent.TheVariants.{Submit}
use Rattle.resil_stats.specs.Stats.{AreJdkCallersOf, HasRoomFor, accepted_of, caller_stats, is_accepting, is_refused_of, refused_of, with_submission}
use Rattle.resil_stats.specs.declared.stats.CallerStats.{CallerStats}
use Rattle.resil_stats.proofs.CountLaws.{filter_few, filter_more}

abbrev pub three : ℕ → ℕ → ℕ → CallerStats
three s a r = record { submissions = s; accepted = a; refused = r }

-- the numbers of a caller, which are 0 if it didn't submit
abbrev pub numbers_of : List JdkEvent → ℕ → CallerStats
numbers_of h c = three (length (submissions h c)) (length (accepted_of h c)) (length (refused_of h c))

-- how many accepted jobs of a caller there are, with one more event
accepted-more : (h : List JdkEvent) (e : JdkEvent) (c : ℕ) → length (accepted_of (h ++ e ∷ []) c) ≡ length (accepted_of h c) + length (accepted_of (e ∷ []) c)
accepted-more h e c = rw (filter_map-append, filter-append, length-append) refl

-- a submission changes the numbers of its caller alone
submit-numbers : (h : List JdkEvent) (x : Id) (reply : JdkReply) (c : ℕ) → numbers_of (h ++ Submit x reply ∷ []) c ≡ cond (x.caller == c) (with_submission (numbers_of h c) (is_accepting reply)) (numbers_of h c)
submit-numbers h x reply c =
    grind (arith, common_steps, filter_more (is_submit_of c) h (Submit x reply), accepted-more h (Submit x reply) c, filter_more (is_refused_of c) h (Submit x reply))

-- any other event changes those of none
pub other-numbers : (h : List JdkEvent) (e : JdkEvent) (c : ℕ) → ((id : Id) (reply : JdkReply) → e ≡ Submit id reply → ⊥) → numbers_of (h ++ e ∷ []) c ≡ numbers_of h c
other-numbers h (Submit x reply) c other = absurd (other x reply refl)
other-numbers h e c other = grind (arith, common_steps, filter_more (is_submit_of c) h e, accepted-more h e c, filter_more (is_refused_of c) h e)

-- each submission of a caller was accepted or refused
parts : (h : List JdkEvent) (c : ℕ) → length (accepted_of h c) + length (refused_of h c) ≡ length (submissions h c)
parts [] c = refl
parts (e ∷ h) c = grind (arith, common_steps, parts h c)

-- what is kept of a caller's numbers, nothing if there are no submissions, and what is read of it
abbrev pub kept : CallerStats → Option CallerStats
kept stats = if stats.submissions == 0 then None else Some stats

read-back : (s a r : ℕ) → a + r ≡ s → unwrap_or (kept (three s a r)) (three 0 0 0) ≡ three s a r
read-back s a r sum = grind (arith, common_steps)

pub numbers-read : (h : List JdkEvent) (c : ℕ) (found : Option CallerStats) (nothing before : CallerStats) → found ≡ caller_stats h c → nothing ≡ three 0 0 0 → before ≡ unwrap_or found nothing → before ≡ numbers_of h c
numbers-read h c found nothing before is zeros read = read ∙ ap (unwrap_or found) zeros ∙ ap (λ o. unwrap_or o (three 0 0 0)) is ∙ read-back _ _ _ (parts h c)

-- the numbers of a caller may be raised by one if the history may have one more event
pub has-room : (h : List JdkEvent) (c : ℕ) → length h + 1 < 2 ^ 64 → HasRoomFor (numbers_of h c)
has-room h c short =
    let s = filter_few (is_submit_of c) h in
    let a = parts h c in
    (omega (arith, s, short), omega (arith, s, a, short), omega (arith, s, a, short))

-- the table with one more submission
module _ (old new : BTreeMap ℕ CallerStats) (x : Id) (reply : JdkReply) (before : CallerStats) (put : Updates nat_cmp old new x.caller (Some (with_submission before (is_accepting reply)))) where
  pub callers-submit : (h : List JdkEvent) → before ≡ numbers_of h x.caller → AreJdkCallersOf h old → AreJdkCallersOf (h ++ Submit x reply ∷ []) new
  callers-submit h is are c = put.0 c ∙ at (x.caller == c) refl ∙ sym (ap kept (submit-numbers h x reply c))
    where
      some-made : (stats : CallerStats) (reply : JdkReply) → Some (with_submission stats (is_accepting reply)) ≡ kept (with_submission stats (is_accepting reply))
      some-made stats reply = grind (arith, common_steps)

      at : (own : Bool) → (x.caller == c) ≡ own → cond (is_eq (nat_cmp x.caller c)) (Some (with_submission before (is_accepting reply))) (tree.get nat_cmp old c) ≡ kept (cond own (with_submission (numbers_of h c) (is_accepting reply)) (numbers_of h c))
      at true own =
          let same : x.caller ≡ c = grind (arith, common_steps, own) in
          let here : is_eq (nat_cmp x.caller c) ≡ true = grind (arith, common_steps, own) in
          rw here (ap (λ stats. Some (with_submission stats (is_accepting reply))) (is ∙ ap (numbers_of h) same) ∙ some-made (numbers_of h c) reply)
      at false other =
          let apart : is_eq (nat_cmp x.caller c) ≡ false = grind (arith, common_steps, other) in
          rw apart (are c)
