-- The visitor stays one of this pool.
use Rattle.resil_executor.specs.Seats.{IsOf}
use Rattle.resil_bench.proofs.answers.submitted.Given as goal

abbrev pub invariant-loop-number : goal.invariant-loop-number
invariant-loop-number g l = IsOf l.pool l.visitor.seat
