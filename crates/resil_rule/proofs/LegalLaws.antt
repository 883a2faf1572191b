-- A legal history stays legal with one more event that is allowed.
use Rattle.std.proofs.Common.{◌∷◌, [], ◌++◌, List, append_assoc, append-nil}
use Rattle.resil_rule.specs.Limits.{Sizes}
use Rattle.resil_rule.specs.Admission.{IsAllowed, AreAllowedAfter, IsLegal}
use Rattle.resil_rule.specs.declared.event.Event.{Event}

allowed-push : (limits : Sizes) (before events : List Event) (event : Event) → AreAllowedAfter limits before events → IsAllowed limits (before ++ events) event
    → AreAllowedAfter limits before (events ++ event ∷ [])
allowed-push limits before [] event legal allowed = (rw append-nil at allowed, tt)
allowed-push limits before (e ∷ events) event legal allowed =
    (legal.0, allowed-push limits (before ++ e ∷ []) events event legal.1 (rw append_assoc allowed))

pub legal-push : (limits : Sizes) (history : List Event) (event : Event) → IsLegal limits history → IsAllowed limits history event → IsLegal limits (history ++ event ∷ [])
legal-push limits history event legal allowed = allowed-push limits [] history event legal allowed
