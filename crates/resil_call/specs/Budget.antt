-- What a retry does whose waits share a budget.
use Rattle.std.specs.Prelude.{ℕ, ◌≡◌, ◌+◌, Bool, List, [], ◌∷◌}
use Rattle.std.specs.List.{FoldsTo}
use Rattle.resil_call.specs.Limit.{IsSpent}
use Rattle.resil_call.specs.Retry.{RoundWithin, IsTriedAgainWithin, IsRetriedWithin}
use Rattle.resil_call.specs.declared.limit.WaitBudget.{WaitBudget}
use Rattle.resil_call.specs.declared.tried.Tried.{Tried}

module _ {T C P : Type 0} (IsAnswer : C → T → C → Type 0) (IsVerdict : T → Bool → Type 0) (IsWait : ℕ → T → ℕ → Type 0) (IsPaused : P → ℕ → P → Type 0) where
  -- the sum of the waits of these attempts, in milliseconds
  unfoldable pub total_wait : (before : List T) (x y : RoundWithin C P WaitBudget) → FoldsTo (IsTriedAgainWithin IsAnswer IsVerdict IsWait IsPaused IsSpent) x before y → ℕ
  total_wait [] x y tried_again = 0
  total_wait (answer ∷ before) x y tried_again = tried_again.1.wait + total_wait before tried_again.0 y tried_again.2

  -- the retry with a budget: the sum of all waits and what is left are the budget
  pub record IsRetriedInBudget (max : ℕ) (call after : C) (pause later : P) (budget rest : WaitBudget) (tried : Tried T) : Type 0 where
    pub retried : IsRetriedWithin IsAnswer IsVerdict IsWait IsPaused IsSpent max call after pause later budget rest tried
    pub waited : total_wait retried.before (record { attempt = 1; call = call; pause = pause; limit = budget }) retried.last retried.tried_again + rest.0 ≡ budget.0
