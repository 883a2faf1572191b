use Rattle.std.proofs.Common.{◌≡◌, ◌+◌, ◌-◌, ℕ, length, slice_index_or}
use Rattle.resil_jdk.proofs.rule.count_up_to.Given as goal

-- each caller made what it made
abbrev pub invariant-loop-made : goal.invariant-loop-made
invariant-loop-made l = (other : ℕ) → slice_index_or l.made.items other 0 ≡ slice_index_or l.initial.made.items other 0

abbrev pub decreases-loop-made : goal.decreases-loop-made
decreases-loop-made l = (l.caller + 1) - length l.made.items
