use Rattle.std.proofs.Common.{ap, length}
use Rattle.std.proofs.iter.runs.Sources.{from_front}
use Rattle.std.specs.Map.Iter.{TakesFirst}
use Rattle.resil_registry.proofs.registry.Registry.names.Goals as goal

pub returns-clause-runs : goal.returns-clause-runs
returns-clause-runs g c = from_front (TakesFirst (λ name. name.now)) (λ name. name.now) (λ left. left) (λ s t h. ap length h.0) (λ s x t h. h)
