-- The verdict of an audit on a history.
use Rattle.std.specs.Prelude.{◌≡◌, ◌++◌, ◌∷◌, suc, List, length}
use Rattle.resil_rule.specs.Limits.{Sizes}
use Rattle.resil_rule.specs.RuleView.{RuleView}
use Rattle.resil_rule.specs.RuleState.{IsStateOf}
use Rattle.resil_rule.specs.Admission.{IsAllowed, IsLegal}
use Rattle.resil_rule.specs.declared.event.Event.{Event}
use Rattle.resil_rule.specs.declared.verdict.Verdict.{Verdict}
use Rattle.resil_rule.specs.declared.verdict.Verdict.TheVariants.{Legal, FirstIllegal}

-- A verdict on a history: it is legal, or the events before a position, counted from 1, are legal and the event there may not follow them.
abbrev pub IsVerdict : Sizes → List Event → Verdict → Type 0
IsVerdict limits history Legal = IsLegal limits history
IsVerdict limits history (FirstIllegal position) = (prefix : List Event) × (bad : Event) × (rest : List Event)
    × (history ≡ prefix ++ bad ∷ rest) × (position ≡ suc (length prefix)) × IsLegal limits prefix × ¬ IsAllowed limits prefix bad

-- A history has at most one verdict.
abbrev pub VerdictsAreOne : Type 0
VerdictsAreOne = (limits : Sizes) (history : List Event) (one other : Verdict) → IsVerdict limits history one → IsVerdict limits history other → one ≡ other

-- The event may not follow any history that may have led to the rule's state.
abbrev pub IsBarred : RuleView (Unit {0}) → Event → Type 0
IsBarred v event = (history : List Event) → IsStateOf history v → ¬ IsAllowed v.limits history event
