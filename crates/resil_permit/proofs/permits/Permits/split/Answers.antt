-- A copy of a pass keeps the rule, and the load after it gives the copy its number.
use Rattle.std.proofs.Common.{ap, ◌∙◌, arith}
use Rattle.resil_permit.proofs.ProtocolSteps.{allows, splits, numbering}
use Rattle.resil_permit.proofs.Calls.{same_table}
use Rattle.resil_permit.proofs.permits.Permits.split.Goals as goal

pub split_seat-seat-requires : goal.split_seat-seat-requires
split_seat-seat-requires c = (same_table _ _ _ _ c.pass.view_is c.requires c.self.view_is, omega arith, splits _ _ _ c.pass.invariant.idle)

pub load-requires : goal.load-requires
load-requires c =
    let made = c.split_seat-seat.ensures in
    (made.3 ∙ same_table _ _ _ _ c.pass.view_is c.requires c.self.view_is, omega arith, allows _ (numbering _ _ _ _ (ap (λ m. m.0.phase) made.4)))
