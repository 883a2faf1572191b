use Rattle.std.proofs.Common.{◌≡◌, ◌≤◌, drop, length, take}
use Rattle.resil_input.specs.Framing.{with_prefix}
use Rattle.resil_stats.specs.Results.{results_of}
use Rattle.resil_stats.proofs.results.split_results.Given as goal

abbrev pub invariant-loop-line : goal.invariant-loop-line
invariant-loop-line l = record {
  within : l.start ≤ length l.body;
  rest : l.line-iterator.rest.now ≡ drop l.start l.body;
  parts : results_of l.body ≡ with_prefix (take l.start l.body) (results_of (drop l.start l.body));
}
