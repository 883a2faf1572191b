-- The pass stays one of these permits, and no more were taken than pairs were made.
use Rattle.std.proofs.Common.{◌≡◌, ◌≤◌}
use Rattle.resil_bench.proofs.permits.pairs_of.Given as goal

abbrev pub invariant-loop : goal.invariant-loop
invariant-loop g l = record {
  source : l.pass.source ≡ l.permits;
  taken : l.taken ≤ l.counter;
}
