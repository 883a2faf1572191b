-- A legal history has no illegal position, and there is only one first illegal position.
use Rattle.std.proofs.Common.{◌≡◌, ◌<◌, ◌≤◌, ◌+◌, ◌∷◌, [], ◌++◌, ◌∙◌, ℕ, suc, List, length, take, drop, get_or, refl, sym, ap, length-append, append_assoc, append-nil, add-one, drop-cons, arith}
use Rattle.std.proofs.Math.Seq.{take-suc}
use Rattle.std.proofs.lemmas.List.{take-append-drop}
use Rattle.std.proofs.lemmas.Grind.{common_steps}
use Rattle.resil_rule.specs.Limits.{Sizes}
use Rattle.resil_rule.specs.RuleView.{RuleView}
use Rattle.resil_rule.specs.RuleState.{IsStateOf}
use Rattle.resil_rule.specs.Admission.{IsAllowed, AreAllowedAfter, IsLegal}
use Rattle.resil_rule.specs.Verdict.{IsVerdict, VerdictsAreOne}
use Rattle.resil_rule.specs.declared.event.Event.{Event}
use Rattle.resil_rule.specs.declared.verdict.Verdict.TheVariants.{Legal, FirstIllegal}

-- in one list of events, a run of allowed events ends before an event that isn't allowed
ends-before : (limits : Sizes) (before front : List Event) (bad : Event) (rest allowed more : List Event) → front ++ bad ∷ rest ≡ allowed ++ more → AreAllowedAfter limits before allowed
    → ¬ IsAllowed limits (before ++ front) bad → length allowed ≤ length front
ends-before limits before front bad rest [] more same legal bars = omega arith
ends-before limits before [] bad rest (e ∷ allowed) more same legal bars = let first : e ≡ bad = cc in absurd (bars (rw append-nil (rw first at legal.0)))
ends-before limits before (f ∷ front) bad rest (e ∷ allowed) more same legal bars =
    let first : e ≡ f = cc in
    let left : front ++ bad ∷ rest ≡ allowed ++ more = cc in
    let later : AreAllowedAfter limits (before ++ f ∷ []) allowed = rw first at legal.1 in
    let less = ends-before limits (before ++ f ∷ []) front bad rest allowed more left later (rw append_assoc bars) in
    omega (arith, less)

-- a legal history has no illegal position
legal-none : (limits : Sizes) (history : List Event) (position : ℕ) → IsLegal limits history → IsVerdict limits history (FirstIllegal position) → ⊥
legal-none limits history position legal (front, bad, rest, same, at, before, bars) =
    let short = ends-before limits [] front bad rest history [] (sym same ∙ sym (append-nil history)) legal bars in
    let long = ap length same ∙ length-append front (bad ∷ rest) in
    omega (arith, short, long)

pub verdict_unique : VerdictsAreOne
verdict_unique limits history Legal Legal a b = refl
verdict_unique limits history Legal (FirstIllegal position) a b = absurd (legal-none limits history position a b)
verdict_unique limits history (FirstIllegal position) Legal a b = absurd (legal-none limits history position b a)
verdict_unique limits history (FirstIllegal position) (FirstIllegal position') (front, bad, rest, same, at, legal, bars) (front', bad', rest', same', at', legal', bars') =
    let one = ends-before limits [] front bad rest front' (bad' ∷ rest') (sym same ∙ same') legal' bars in
    let other = ends-before limits [] front' bad' rest' front (bad ∷ rest) (sym same' ∙ same) legal bars' in
    ap FirstIllegal (omega (arith, at, at', one, other))

-- the events before a position of a history, the event there, and those after it
module _ (limits : Sizes) (h : List Event) (i : ℕ) (d : Event) (within : i < length h) where
  split-at : h ≡ take i h ++ get_or h i d ∷ drop (suc i) h
  split-at = sym (take-append-drop i h) ∙ ap (λ (t : List Event). take i h ++ t) (drop-cons h i d within)

  pub verdict-at : IsLegal limits (take i h) → ¬ IsAllowed limits (take i h) (get_or h i d) → IsVerdict limits h (FirstIllegal (i + 1))
  verdict-at legal bars =
      let position : i + 1 ≡ suc (length (take i h)) = grind (arith, common_steps) in
      (take i h, get_or h i d, drop (suc i) h, split-at, position, legal, bars)

-- the rule's state after one more event
pub state_next : (v : RuleView (Unit {0})) (h : List Event) (i : ℕ) (d : Event) → i < length h → IsStateOf (take i h ++ get_or h i d ∷ []) v
    → IsStateOf (take (i + 1) h) v
state_next v h i d within state = rw (add-one, take-suc h i d within) state
