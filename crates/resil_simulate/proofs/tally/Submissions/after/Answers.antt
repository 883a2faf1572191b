use Rattle.std.proofs.Common.{arith}
use Rattle.resil_stats.specs.Stats.{is_full, is_submit}
use Rattle.resil_stats.proofs.CountLaws.{filter_few}
use Rattle.resil_simulate.proofs.tally.Submissions.after.Goals as goal

pub overflow_add-result : goal.overflow_add-result
overflow_add-result c = omega (arith, c.requires.1.all, c.requires.2, filter_few is_submit c.requires.0)

pub overflow_add-result-2 : goal.overflow_add-result-2
overflow_add-result-2 c = grind (arith, c.requires.1.refused, c.requires.2, filter_few is_full c.requires.0, c.from.ensures)
