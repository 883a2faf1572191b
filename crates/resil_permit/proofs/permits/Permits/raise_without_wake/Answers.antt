-- A pass that has retired a permit may add 1.
use Rattle.std.proofs.Common.{◌<◌, sym, subst, arith}
use Rattle.resil_permit.specs.Passes.{PassView, retired_by}
use Rattle.resil_permit.proofs.ProtocolSteps.{allows, raising}
use Rattle.resil_permit.proofs.Calls.{same_table}
use Rattle.resil_permit.proofs.permits.Permits.raise_without_wake.Goals as goal

pub fetch_add-requires : goal.fetch_add-requires
fetch_add-requires c =
    let seat = c.pass.inside.seat in
    let table = c.self.inside.table.shared in
    let has = subst (λ (k : PassView). 0 < retired_by k) (sym c.pass.view_is) c.requires.retired in
    let step = allows table.table_id.slots (raising table.key table.table_id.slots seat.id seat.me c.pass.invariant.idle (omega arith)) in
    (same_table _ _ _ _ c.pass.view_is c.requires.source c.self.view_is, omega arith, search)
