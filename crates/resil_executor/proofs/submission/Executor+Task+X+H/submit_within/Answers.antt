-- The visitor that the call makes has seen it.
use Rattle.std.proofs.lemmas.Result.{IfErr-weaker, on_ok_weaker}
use Rattle.resil_executor.proofs.submission.Executor+Task+X+H.submit_within.Goals as goal

pub returns-clause-accepted : goal.returns-clause-accepted
returns-clause-accepted g c = on_ok_weaker c.submit_within_by.result (λ seen. (_, seen)) (rw c.visitor-visitor.ensures.blank at c.submit_within_by.ensures.accepted)

pub returns-clause-none : goal.returns-clause-none
returns-clause-none g c = IfErr-weaker c.submit_within_by.result _ _ (λ e seen. (_, seen)) (rw c.visitor-visitor.ensures.blank at c.submit_within_by.ensures.none)
