-- A pass that took a permit after it had waited, and gave it back, has held one since its wait.
use Rattle.std.proofs.Common.{◌≡◌, ℕ, [], ◌∷◌, ◌++◌, sym, ap, ◌∙◌, subst}
use Rattle.std.proofs.lemmas.List.{append_assoc}
use Rattle.resil_permit.specs.declared.event.PermitEvent.TheVariants.{Took, Gave}
use Rattle.resil_permit.specs.declared.permits.Attempt.TheVariants as tried
use Rattle.resil_permit.specs.History.{events_of_seat}
use Rattle.resil_permit.specs.Passes.{PassView, IsSamePass, AppendsEvent}
use Rattle.resil_permit.specs.TryAcquire.{IsTry}
use Rattle.resil_permit.specs.Waits.{HasWaited}
use Rattle.resil_bulkhead.specs.Execution.{HasHeldPermit}

held : (p inside q : PassView) → IsSamePass p inside → IsSamePass p q → IsTry p inside tried.Taken → AppendsEvent inside (Gave inside.number) (λ _. Unit {0}) q → HasHeldPermit p q
held p inside q same same' took gave =
    let as_before = subst (λ (s : ℕ). events_of_seat s q.seen ≡ events_of_seat s inside.seen ++ Gave s ∷ []) same.number gave.more_own in
    let both = ap (λ events. events ++ Gave p.number ∷ []) took.more_own ∙ append_assoc (events_of_seat p.number p.seen) (Took p.number ∷ []) (Gave p.number ∷ []) in
    record { inside = inside; same = same; took = took; gave = gave; own = ap (λ (s : ℕ). events_of_seat s q.seen) same'.number ∙ (as_before ∙ both) }

-- p waited and became `waited`, took a permit and became `inside`, and gave it back
pub held_since : (longest : ℕ) (p waited inside q : PassView) → HasWaited longest p waited → IsSamePass p inside → IsSamePass inside q → IsTry waited inside tried.Taken → AppendsEvent inside (Gave inside.number) (λ _. Unit {0}) q → HasHeldPermit waited q
held_since longest p waited inside q has same left took gave =
    let first = has.same in
    let before : IsSamePass waited inside = record { source = same.source ∙ sym first.source; number = same.number ∙ sym first.number } in
    held waited inside q before (record { source = left.source ∙ before.source; number = left.number ∙ before.number }) took gave
