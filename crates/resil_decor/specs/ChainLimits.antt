-- The limits of a chain: how many layers it may have, and how many calls it may make.
use Rattle.std.specs.Prelude.{ℕ, ◌≤◌, ◌<◌, ◌*◌, List, [], ◌∷◌, length}
use Rattle.resil_decor.specs.declared.layer.Layer.{Layer}
use Rattle.resil_decor.specs.declared.layer.Layer.TheVariants.{Retry, Bulkhead, Fallback}
use Rattle.resil_decor.specs.declared.error.DecorError.{DecorError}
use Rattle.resil_decor.specs.declared.error.DecorError.TheVariants as refused

-- the maximum number of layers of a chain
abbrev pub layer_limit : ℕ
layer_limit = 8

-- the maximum number of calls that a chain may make of the function inside it
abbrev pub call_limit : ℕ
call_limit = 1000

-- the maximum number of times that a layer makes the call inside it
abbrev pub attempts_of : Layer → ℕ
attempts_of (Retry settings) = settings.max_attempts
attempts_of (Bulkhead id) = 1
attempts_of (Fallback catch value) = 1

-- the maximum number of calls of the innermost function: the product of the attempts of all retries
unfoldable pub max_calls : List Layer → ℕ
max_calls [] = 1
max_calls (layer ∷ layers) = attempts_of layer * max_calls layers

-- layers that a chain may have; each retry has at least one attempt
pub record IsChain (layers : List Layer) : Type 0 where
  pub few_layers : length layers ≤ layer_limit
  pub few_calls : max_calls layers ≤ call_limit
  pub some_call : 1 ≤ max_calls layers

-- why layers don't make a chain: first their number, then the calls that they may make
abbrev pub IsChainError : List Layer → DecorError → Type 0
IsChainError layers refused.TooManyLayers = layer_limit < length layers
IsChainError layers refused.TooManyCalls = (length layers ≤ layer_limit) × (call_limit < max_calls layers)
IsChainError layers refused.Memory = ⊥
