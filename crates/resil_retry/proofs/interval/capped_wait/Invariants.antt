use Rattle.std.proofs.Common.{◌≡◌, ◌≤◌}
use Rattle.resil_retry.specs.Interval.{uncapped_wait}
use Rattle.resil_retry.proofs.interval.capped_wait.Given as goal

-- the wait so far is what the first one grows to, below the cap
abbrev pub invariant-loop-step : goal.invariant-loop-step
invariant-loop-step l = record {
  grown_so_far : l.wait ≡ uncapped_wait l.first l.numerator l.denominator l.step;
  within : l.wait ≤ l.cap;
}
