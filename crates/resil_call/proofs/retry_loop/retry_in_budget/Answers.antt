use Rattle.resil_call.proofs.BudgetLaws.{IsRetriedInBudget-of}
use Rattle.resil_call.proofs.retry_loop.retry_in_budget.Goals as goal

pub returns-clause-within : goal.returns-clause-within
returns-clause-within g c = IsRetriedInBudget-of _ _ _ _ _ _ _ _ _ _ _ _ c.retry_within.ensures.retried
