-- The visitor that the call makes has seen it.
use Rattle.resil_executor.proofs.executor.Executor.join_for.Goals as goal

pub returns-clause-by_the_clock : goal.returns-clause-by_the_clock
returns-clause-by_the_clock g c = rw c.visitor-visitor.ensures.blank at c.join_for_by-value.ensures.by_the_clock
