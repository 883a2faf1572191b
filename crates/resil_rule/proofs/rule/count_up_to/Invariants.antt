use Rattle.std.proofs.Common.{◌≡◌, ◌≤◌, ◌+◌, ◌-◌, ℕ, suc, max, List, length, slice_index_or}
use Rattle.resil_rule.proofs.rule.count_up_to.Given as goal

-- each caller's number is as before, and the table grows no further than to the caller
pub record Grows (old new : List ℕ) (caller : ℕ) : Type 0 where
  pub same : (other : ℕ) → slice_index_or new other 0 ≡ slice_index_or old other 0
  pub grows : length old ≤ length new
  pub no_further : length new ≤ max (length old) (suc caller)

abbrev pub invariant-loop-made : goal.invariant-loop-made
invariant-loop-made l = Grows l.initial.made.items l.made.items l.caller

abbrev pub decreases-loop-made : goal.decreases-loop-made
decreases-loop-made l = (l.caller + 1) - length l.made.items
