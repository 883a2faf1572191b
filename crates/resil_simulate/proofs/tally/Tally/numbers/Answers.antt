use Rattle.std.proofs.Common.{◌<◌, ◌^◌, arith, rules}
use Rattle.resil_jdk.specs.Timed.{events_in, times_in}
use Rattle.resil_simulate.proofs.SpentLaws.{finished-small}
use Rattle.resil_simulate.proofs.tally.Tally.numbers.Goals as goal

pub busy-busy-requires : goal.busy-busy-requires
busy-busy-requires c =
    let (history, is, has) = c.requires in
    let fits : c.args.self.spent.time < 2 ^ 64 = search rules in
    let small = finished-small (events_in history) (times_in history) has c.args.self.spent.time is.spent.time fits in
    (omega (arith, small, is.spent.finished_run, is.spent.finished_worker), omega (arith, small, is.spent.finished_worker))
