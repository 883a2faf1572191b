use Rattle.std.proofs.Common.{ℕ, ◌≡◌, ◌≤◌, ◌<◌, slice_index}
use Rattle.resil_stats.specs.Axis.{span_of}
use Rattle.resil_stats.proofs.axis.span_end.Given as goal

-- the events so far lie in the span of the first of them
abbrev pub invariant-loop-end : goal.invariant-loop-end
invariant-loop-end l = (i : ℕ) → l.done ≤ i → i < l.end → span_of l.period (slice_index l.times i) ≡ l.span
