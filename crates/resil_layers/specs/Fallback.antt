-- What a fallback makes of an answer. `IsValue` says what the function makes of an error, and in which state that
-- leaves the function.
use Rattle.std.specs.Prelude.{◌≡◌, ◌⊎◌, Bool, true, false, Result, Ok, Err, IsOkAnd}

-- a value stays; the function makes a value of an error
abbrev pub IsElse : {T E F : Type 0} → (F → E → T → F → Type 0) → F → F → Result T E → T → Type 0
IsElse IsValue old new (Ok value) answer = (answer ≡ value) × (new ≡ old)
IsElse IsValue old new (Err error) answer = IsValue old error answer new

-- a value stays, and so does an error that isn't named; the function makes a value of an error that is named
abbrev pub IsRecovered : {T E F : Type 0} → (E → Bool → Type 0) → (F → E → T → F → Type 0) → F → F → Result T E → Result T E → Type 0
IsRecovered IsNamed IsValue old new (Ok value) answer = (answer ≡ Ok value) × (new ≡ old)
IsRecovered IsNamed IsValue old new (Err error) answer =
    (IsNamed error true × IsOkAnd answer (λ value. IsValue old error value new)) ⊎ (IsNamed error false × (answer ≡ Err error) × (new ≡ old))
