-- The value of a chain of decorators (Resilience4j user guide, Decorators).
use Rattle.std.specs.Prelude.{ℕ, ℤ, ◌==◌, List, [], ◌∷◌, Option, Some, None, option_map, if◌then◌else◌, reverse}
use Rattle.resil_retry.specs.declared.outcome.Kind.TheVariants.{Full}
use Rattle.resil_retry.specs.declared.outcome.Outcome.{Outcome}
use Rattle.resil_retry.specs.declared.outcome.Outcome.TheVariants.{Value, Error}
use Rattle.resil_retry.specs.ErrorTest.{ErrorTestView, names}
use Rattle.resil_retry.specs.Retry.{CallResult, as_call, retried}
use Rattle.resil_retry.specs.Script.{first, rest}
use Rattle.resil_decor.specs.declared.permitter.Asked.{Asked}
use Rattle.resil_decor.specs.declared.layer.Layer.{Layer}
use Rattle.resil_decor.specs.declared.layer.Layer.TheVariants.{Retry, Bulkhead, Fallback}

-- what is left for the calls to come, of the script of the innermost function and of the answers of bulkheads
pub record Remaining : Type 0 where
  pub script : List Outcome
  pub asked : List Asked

-- no layers: one call of the function
abbrev pub innermost : Remaining → Option (CallResult Remaining)
innermost left = option_map (λ outcome. record {
  outcome = outcome;
  calls = 1;
  waits = [];
  after = record { script = rest left.script; asked = left.asked };
}) (first left.script)

-- a bulkhead without a free permit: the function isn't called
abbrev pub refused : Remaining → CallResult Remaining
refused left = record { outcome = Error Full; calls = 0; waits = []; after = left }

-- a bulkhead: the next answer is one of its own; if it grants a permit, the call inside is made
abbrev pub through_bulkhead : ℕ → (Remaining → Option (CallResult Remaining)) → List Outcome → List Asked → Option (CallResult Remaining)
through_bulkhead id inside script [] = None
through_bulkhead id inside script (answer ∷ answers) =
    if answer.id == id then (if answer.granted then inside (record { script = script; asked = answers })
    else Some (refused (record { script = script; asked = answers })))
    else None

-- a fallback: an error that its test names becomes its value; every other outcome stays
abbrev pub fallback_outcome : ErrorTestView → ℤ → Outcome → Outcome
fallback_outcome catch value (Value given) = Value given
fallback_outcome catch value (Error kind) = if names catch kind then Value value else Error kind

-- a call with a fallback around it
abbrev pub through_fallback : ErrorTestView → ℤ → CallResult Remaining → CallResult Remaining
through_fallback catch value c = record c { outcome = fallback_outcome catch value c.outcome }

-- The call of a function through layers, the outermost first. None if the answers end early or one
-- is of another bulkhead.
unfoldable pub through : List Layer → Remaining → Option (CallResult Remaining)
through [] left = innermost left
through (Retry settings ∷ inside) left = option_map as_call (retried settings (through inside) left)
through (Bulkhead id ∷ inside) left = through_bulkhead id (through inside) left.script left.asked
through (Fallback catch value ∷ inside) left = option_map (through_fallback catch value) (through inside left)

-- the call through a chain, with layers listed innermost first
abbrev pub chain_call : List Layer → Remaining → Option (CallResult Remaining)
chain_call layers left = through (reverse layers) left
