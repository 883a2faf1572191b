-- A pass that holds nothing and has no retired permit may be joined away, and the load after it shows what either had seen.
use Rattle.std.proofs.Common.{◌≡◌, sym, ap, ◌∙◌, subst, arith}
use Rattle.resil_permit.specs.Passes.{PassView, held_by, retired_by}
use Rattle.resil_permit.proofs.ProtocolSteps.{allows, joins, ending_join}
use Rattle.resil_permit.proofs.Calls.{same_table}
use Rattle.resil_permit.proofs.permits.Permits.join.Goals as goal

pub join_seat-requires : goal.join_seat-requires
join_seat-requires c =
    let none = subst (λ (k : PassView). (held_by k ≡ 0) × (retired_by k ≡ 0)) (sym c.from.view_is) (c.requires.held, c.requires.retired) in (
      same_table _ _ _ _ c.into.view_is c.requires.source.0 c.self.view_is,
      same_table _ _ _ _ c.from.view_is c.requires.source.1 c.self.view_is,
      c.from.invariant.no_slot,
      omega arith,
      joins _ _ _ _ _ c.into.invariant.idle c.from.invariant.idle (omega arith) (omega arith),
    )

pub load-requires : goal.load-requires
load-requires c =
    let made = c.join_seat.ensures in
    let table = made.0 ∙ same_table _ _ _ _ c.into.view_is c.requires.source.0 c.self.view_is in
    (table, omega arith, allows _ (ending_join _ _ _ _ _ _ _ (ap (λ m. m.0.phase) made.2)))
