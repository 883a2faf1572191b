use Rattle.std.proofs.Common.{append_assoc}
use Rattle.resil_stats.proofs.svg.elements.worker_opening.Goals as goal

pub returns : goal.returns
returns c = simp append_assoc c.format.ensures.ok
