-- All passes so far are of these permits, and so is the first.
use Rattle.std.proofs.Common.{◌≡◌, All}
use Rattle.resil_bench.proofs.permits.passes_of.Given as goal

abbrev pub invariant-loop : goal.invariant-loop
invariant-loop l = record {
  first : l.first.source ≡ l.permits;
  passes : All (λ pass. pass.source ≡ l.permits) l.passes.items;
}
