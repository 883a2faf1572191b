-- What an observer of a retry sees.
use Rattle.std.specs.Prelude.{ℕ, ◌≡◌, ◌+◌, min}
use Rattle.resil_layers.specs.declared.retried_observed.Telling.{Telling}

-- the observer gets the number of the attempt and the wait, which is then paused for; the next number is one more, up to 2^32 - 1
abbrev pub IsTold : {T P O : Type 0} → (O → ℕ → ℕ → O → Type 0) → (P → ℕ → P → Type 0) → Telling T P O → ℕ → Telling T P O → Type 0
IsTold IsRetry IsPaused = λ x wait y.
    IsRetry x.observer x.attempt wait y.observer × IsPaused x.pause wait y.pause × (y.attempt ≡ min (x.attempt + 1) 4294967295)
