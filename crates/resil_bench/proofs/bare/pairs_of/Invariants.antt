-- No more were taken than pairs were made.
use Rattle.std.proofs.Common.{◌≤◌}
use Rattle.resil_bench.proofs.bare.pairs_of.Given as goal

abbrev pub invariant-loop : goal.invariant-loop
invariant-loop g l = l.taken ≤ l.counter
