-- What is known after a worker's poll, and what its rounds do together.
use Rattle.std.specs.Prelude.{ℕ, zero, suc, ◌≡◌}
use Rattle.resil_lock.specs.declared.work.Look.{Look}
use Rattle.resil_lock.specs.declared.work.Look.TheVariants.{Found, Nothing, Over}

module _ {J : Type 0} where
  -- about the job, if the poll found one
  abbrev pub OnFound : Look J → (J → Type 0) → Type 0
  OnFound (Found job) P = P job
  OnFound Nothing P = Unit {0}
  OnFound Over P = Unit {0}

  -- if the poll found none
  abbrev pub OnNothing : Look J → Type 0 → Type 0
  OnNothing (Found job) P = Unit {0}
  OnNothing Nothing P = P
  OnNothing Over P = P

  -- if the poll found none, and there will be none
  abbrev pub OnOver : Look J → Type 0 → Type 0
  OnOver (Found job) P = Unit {0}
  OnOver Nothing P = Unit {0}
  OnOver Over P = P

-- This many rounds were made, one after the other: each may lead to the state with which the next one began.
abbrev pub AfterRounds : {A : Type 0} → (A → A → Type 0) → ℕ → A → A → Type 0
AfterRounds HasGone zero before after = after ≡ before
AfterRounds {A = A} HasGone (suc rounds) before after = (between : A) × AfterRounds HasGone rounds before between × HasGone between after
