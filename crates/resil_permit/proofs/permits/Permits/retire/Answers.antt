-- A pass that holds a permit may add 0 and keep it back.
use Rattle.std.proofs.Common.{◌<◌, sym, subst, arith}
use Rattle.resil_permit.specs.Passes.{PassView, held_by}
use Rattle.resil_permit.proofs.ProtocolSteps.{allows, retiring}
use Rattle.resil_permit.proofs.Calls.{same_table, fits_one_retired}
use Rattle.resil_permit.proofs.permits.Permits.retire.Goals as goal

pub fetch_add-requires : goal.fetch_add-requires
fetch_add-requires c =
    let holds = subst (λ (k : PassView). 0 < held_by k) (sym c.pass.view_is) c.requires.held in
    (same_table _ _ _ _ c.pass.view_is c.requires.source c.self.view_is, omega arith, allows _ (retiring _ _ _ _ c.pass.invariant.idle (omega arith)))

pub overflow_add-pass : goal.overflow_add-pass
overflow_add-pass c =
    let least = fits_one_retired c.pass.inside.seat.me c.fetch_add.new.seat.me _ _ c.fetch_add.ensures.2.own c.pass.invariant.kept_back in omega arith
