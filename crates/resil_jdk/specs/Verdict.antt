-- What an audit says of a history.
use Rattle.std.specs.Prelude.{◌≡◌, ◌++◌, ◌∷◌, suc, List, length}
use Rattle.resil_rule.specs.Limits.{Sizes}
use Rattle.resil_rule.specs.declared.verdict.Verdict.{Verdict}
use Rattle.resil_rule.specs.declared.verdict.Verdict.TheVariants.{Legal, FirstIllegal}
use Rattle.resil_jdk.specs.Admission.{IsAllowed, IsLegal}
use Rattle.resil_jdk.specs.declared.event.JdkEvent.{JdkEvent}

-- A verdict on a history: it is legal, or the events before a position, from 1, are legal, and the one there may not follow them.
abbrev pub IsVerdict : Sizes → List JdkEvent → Verdict → Type 0
IsVerdict limits history Legal = IsLegal limits history
IsVerdict limits history (FirstIllegal position) = (prefix : List JdkEvent) × (bad : JdkEvent) × (rest : List JdkEvent)
    × (history ≡ prefix ++ bad ∷ rest) × (position ≡ suc (length prefix)) × IsLegal limits prefix × ¬ IsAllowed limits prefix bad

-- A history has at most one verdict.
abbrev pub VerdictsAreOne : Type 0
VerdictsAreOne = (limits : Sizes) (history : List JdkEvent) (one other : Verdict) → IsVerdict limits history one → IsVerdict limits history other → one ≡ other
