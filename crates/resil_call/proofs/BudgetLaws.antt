-- All waits of a retry with a budget together are within it.
use Rattle.std.proofs.Common.{◌≡◌, ◌+◌, ◌∷◌, [], ℕ, Bool, List, refl, ap, arith}
use Rattle.std.specs.List.{FoldsTo}
use Rattle.resil_call.specs.Budget.{total_wait, IsRetriedInBudget}
use Rattle.resil_call.specs.Limit.{IsSpent}
use Rattle.resil_call.specs.Retry.{RoundWithin, IsTriedAgainWithin, IsRetriedWithin, LeavesLimit}
use Rattle.resil_call.specs.declared.limit.WaitBudget.{WaitBudget}
use Rattle.resil_call.specs.declared.tried.End.{End}
use Rattle.resil_call.specs.declared.tried.End.TheVariants.{Accepted, Exhausted, OutOfTime}
use Rattle.resil_call.specs.declared.tried.Tried.{Tried}

module _ {T C P : Type 0} (IsAnswer : C → T → C → Type 0) (IsVerdict : T → Bool → Type 0) (IsWait : ℕ → T → ℕ → Type 0) (IsPaused : P → ℕ → P → Type 0) where
  waits_and_rest : (before : List T) (x y : RoundWithin C P WaitBudget) (p : FoldsTo (IsTriedAgainWithin IsAnswer IsVerdict IsWait IsPaused IsSpent) x before y)
      → total_wait IsAnswer IsVerdict IsWait IsPaused before x y p + y.limit.0 ≡ x.limit.0
  unfolding total_wait
  waits_and_rest [] x y p = let same : x.limit.0 ≡ y.limit.0 = ap (λ (r : RoundWithin C P WaitBudget). r.limit.0) p in omega (arith, same)
  waits_and_rest (o ∷ before) x y p =
      let later = waits_and_rest before p.0 y p.2 in
      let fits = p.1.allowed.0.0 refl in
      let left = p.1.allowed.1 in
      omega (arith, later, fits, left)

  -- the end takes nothing off
  same_rest : (tried : Tried T) (limit rest : WaitBudget) (end : End) → LeavesLimit IsWait IsSpent tried limit rest end → rest.0 ≡ limit.0
  same_rest tried limit rest Accepted left = ap (λ (b : WaitBudget). b.0) left
  same_rest tried limit rest Exhausted left = ap (λ (b : WaitBudget). b.0) left
  same_rest tried limit rest OutOfTime left = left.2.1

  pub IsRetriedInBudget-of : (max : ℕ) (call after : C) (pause later : P) (budget rest : WaitBudget) (tried : Tried T)
      → IsRetriedWithin IsAnswer IsVerdict IsWait IsPaused IsSpent max call after pause later budget rest tried
      → IsRetriedInBudget IsAnswer IsVerdict IsWait IsPaused max call after pause later budget rest tried
  IsRetriedInBudget-of max call after pause later budget rest tried retried =
      let all = waits_and_rest retried.before (record { attempt = 1; call = call; pause = pause; limit = budget }) retried.last retried.tried_again in
      let left = same_rest tried retried.last.limit rest tried.end retried.left in
      record { retried = retried; waited = omega (arith, all, left) }
