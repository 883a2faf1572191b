-- What a layer makes of a call under a bulkhead.
use Rattle.std.specs.Prelude.{◌≡◌, Result, MatchResult, IsErrAnd}

-- the answer of the function, or the error that a refusal becomes
abbrev pub IsAnswerOrRefusal : {T E R : Type 0} → (R → E → Type 0) → Result (Result T E) R → Result T E → Type 0
IsAnswerOrRefusal Becomes executed answer = MatchResult executed (λ given. answer ≡ given) (λ refused. IsErrAnd answer (Becomes refused))
