use Rattle.std.proofs.Common.{rules, arith}
use Rattle.resil_virtual.proofs.FinalLaws.{opened-left, opened-parts}
use Rattle.resil_virtual.proofs.pool.Simulation.new.Goals as goal

pub returns-clause-pool : goal.returns-clause-pool
returns-clause-pool c =
    let few = opened-left c.args.plan c.args.arrivals.now in
    record { parts = rw (c.new.ensures.items, c.new-2.ensures, c.new-3.ensures) (opened-parts c.args.plan c.args.arrivals.now c.requires (search rules) (search rules)); counted = omega (arith, few) }
