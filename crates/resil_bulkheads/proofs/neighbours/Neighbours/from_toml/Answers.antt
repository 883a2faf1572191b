use Rattle.resil_bulkheads.proofs.NeighboursLaws.{parse_configurations-keeps}
use Rattle.resil_bulkheads.proofs.neighbours.Neighbours.from_toml.Goals as goal

pub of-requires-clause-blank : goal.of-requires-clause-blank
of-requires-clause-blank c = (parse_configurations-keeps _ _ c.in_ok-names.ensures).0

pub of-requires-clause-default : goal.of-requires-clause-default
of-requires-clause-default c = (parse_configurations-keeps _ _ c.in_ok-names.ensures).1
