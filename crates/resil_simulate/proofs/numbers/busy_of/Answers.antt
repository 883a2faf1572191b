use Rattle.std.proofs.Common.{arith, length}
use Rattle.resil_simulate.proofs.NumberLaws.{finish-small}
use Rattle.resil_simulate.proofs.numbers.busy_of.Goals as goal

pub busy-requires : goal.busy-requires
busy-requires c =
    let small = finish-small _ _ c.requires c.type_inv.times (length c.args.events.now) (omega arith) in
    (omega (arith, small, c.areas_of.ensures.run_time, c.areas_of.ensures.worker_time), omega (arith, small, c.areas_of.ensures.worker_time))
