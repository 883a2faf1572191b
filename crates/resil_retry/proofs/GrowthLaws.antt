-- How an exponential wait grows: it never falls, and stays once a step leaves it as it is.
use Rattle.std.proofs.Common.{◌≡◌, ◌≤◌, ◌<◌, ◌+◌, ◌*◌, ◌/◌, ℕ, zero, suc, min, refl, arith, add-suc, add-zero, add-one}
use Rattle.std.proofs.Math.Nat.{mul-le-mul_left}
use Rattle.std.proofs.lemmas.Nat.{le-div}
use Rattle.resil_retry.specs.Interval.{uncapped_wait}

module _ (initial numerator denominator : ℕ) where
  -- one more step
  pub uncapped_wait-more : (steps : ℕ) → uncapped_wait initial numerator denominator (steps + 1) ≡ uncapped_wait initial numerator denominator steps * numerator / denominator
  unfolding uncapped_wait
  uncapped_wait-more steps = rw add-one refl

  -- a wait that one step leaves as it is stays for all later steps
  pub uncapped_wait-kept : (steps more : ℕ) → uncapped_wait initial numerator denominator (steps + 1) ≡ uncapped_wait initial numerator denominator steps
      → uncapped_wait initial numerator denominator (steps + more) ≡ uncapped_wait initial numerator denominator steps
  unfolding uncapped_wait
  uncapped_wait-kept steps zero same = rw add-zero refl
  uncapped_wait-kept steps (suc more) same = rw (add-suc steps more, uncapped_wait-kept steps more same) (rw add-one at same)

  -- a multiplier of at least 1 never makes a wait shorter
  pub uncapped_wait-rises : 1 ≤ denominator → denominator ≤ numerator → (steps more : ℕ)
      → uncapped_wait initial numerator denominator steps ≤ uncapped_wait initial numerator denominator (steps + more)
  unfolding uncapped_wait
  uncapped_wait-rises positive growing steps zero = rw add-zero (omega arith)
  uncapped_wait-rises positive growing steps (suc more) =
      let before = uncapped_wait-rises positive growing steps more in
      let wait = uncapped_wait initial numerator denominator (steps + more) in
      let here : wait ≤ wait * numerator / denominator = le-div wait (wait * numerator) denominator positive (mul-le-mul_left wait growing) in
      rw (add-suc steps more) (omega arith)

  -- once the cap is reached, the next wait is the cap
  pub capped-stays : (cap steps : ℕ) → 1 ≤ denominator → denominator ≤ numerator → cap ≤ min (uncapped_wait initial numerator denominator steps) cap
      → cap ≡ min (uncapped_wait initial numerator denominator (steps + 1)) cap
  capped-stays cap steps positive growing reached =
      let later = uncapped_wait-rises positive growing steps 1 in
      omega (arith, later, reached)

  -- below the cap, the next wait is one step of this one
  pub capped-step : (cap steps wait : ℕ) → wait ≡ min (uncapped_wait initial numerator denominator steps) cap → wait < cap
      → min cap (wait * numerator / denominator) ≡ min (uncapped_wait initial numerator denominator (steps + 1)) cap
  capped-step cap steps wait is below =
      let here : wait ≡ uncapped_wait initial numerator denominator steps = omega (arith, is, below) in
      let next = uncapped_wait-more steps in
      rw (next, ← here) (omega arith)
