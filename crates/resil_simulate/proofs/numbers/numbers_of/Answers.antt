use Rattle.std.proofs.Common.{rules}
use Rattle.std.proofs.lemmas.List.{length-map}
use Rattle.resil_simulate.proofs.numbers.numbers_of.Goals as goal

pub busy_of-requires : goal.busy_of-requires
busy_of-requires c = record { legal = search (rules, c.requires.legal); same = search (rules, length-map); ascending = search (rules, c.requires.ascending) }
