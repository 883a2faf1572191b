-- Each number so far is some caller's.
use Rattle.std.proofs.Common.{◌≡◌, ◌≤◌, ℕ}
use Rattle.std.specs.Prelude.{Any}
use Rattle.resil_pool.proofs.draining.callers.are_numbered.Given as goal

abbrev pub invariant-loop-below : goal.invariant-loop-below
invariant-loop-below l = (number : ℕ) → 1 ≤ number → number ≤ l.below → Any (λ c. c.number ≡ number) l.callers
