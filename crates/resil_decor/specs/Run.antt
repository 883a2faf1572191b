-- The result of a run of a plan.
use Rattle.std.specs.Prelude.{ℕ, ◌≡◌, [], List, IsSomeAnd}
use Rattle.resil_retry.specs.declared.outcome.Outcome.{Outcome}
use Rattle.resil_decor.specs.declared.permitter.Asked.{Asked}
use Rattle.resil_decor.specs.Chain.{chain_call}
use Rattle.resil_decor.specs.Plan.{PlanView}

-- the plan, the outcome, how often the innermost function was called, the waits, and the answers of
-- the bulkheads
pub record RunView : Type 0 where
  pub plan : PlanView
  pub outcome : Outcome
  pub calls : ℕ
  pub waits : List ℕ
  pub asked : List Asked

-- outcome, calls and waits are those of the plan's chain for these answers, and no answer is left
-- over
abbrev pub IsValue : RunView → Type 0
IsValue r = IsSomeAnd (chain_call r.plan.layers (record { script = r.plan.script; asked = r.asked }))
    (λ c. (c.outcome ≡ r.outcome) × (c.calls ≡ r.calls) × (c.waits ≡ r.waits) × (c.after.asked ≡ []))
