-- What is built of the layers that a head asks for: each part, or the error of the first that breaks its rule.
use Rattle.std.specs.Prelude.{ℕ, not, ◌==◌, ◌&&◌, List, [], ◌∷◌, Result, Ok, Err, if◌then◌else◌, length, nat_lt, nat_le}
use Rattle.resil_decor.specs.ChainLimits.{call_limit, layer_limit, max_calls}
use Rattle.resil_decor.specs.declared.error.DecorError.TheVariants as chain
use Rattle.resil_decor.specs.declared.layer.Layer.{Layer}
use Rattle.resil_decor.specs.declared.layer.Layer.TheVariants as layer
use Rattle.resil_retry.specs.Interval.{interval_limit}
use Rattle.resil_retry.specs.Config.{RetryConfigView, attempt_limit}
use Rattle.resil_retry.specs.declared.error.RetryError.TheVariants as retry
use Rattle.resil_retry.specs.declared.interval.Backoff.{Backoff}
use Rattle.resil_retry.specs.declared.interval.Backoff.TheVariants as interval
use Rattle.resil_registry.specs.Registry.{RegistryView}
use Rattle.resil_heads.specs.LayerBulkheads.{layer_id, obtained}
use Rattle.resil_heads.specs.Checks.{and_then}
use Rattle.resil_heads.specs.declared.layers.values.IntervalSpec.{IntervalSpec}
use Rattle.resil_heads.specs.declared.layers.values.IntervalSpec.TheVariants.{Fixed, Exponential}
use Rattle.resil_heads.specs.declared.layers.values.RetrySpec.{RetrySpec}
use Rattle.resil_heads.specs.declared.layers.values.LayerSpec.{LayerSpec}
use Rattle.resil_heads.specs.declared.layers.values.LayerSpec.TheVariants.{Retry, Bulkhead, Fallback}
use Rattle.resil_heads.specs.declared.error.HeadError.{HeadError}
use Rattle.resil_heads.specs.declared.error.HeadError.TheVariants as error

-- the interval, if a retry takes it: no wait is too long, the multiplier is at least 1 with terms up to 1,000, and the longest wait is no
-- shorter than the first
abbrev pub build_interval : IntervalSpec → Result Backoff HeadError
build_interval (Fixed ms) = if nat_le ms interval_limit then Ok (interval.Fixed ms) else Err (error.Retry retry.IntervalTooLong)
build_interval (Exponential initial numerator denominator cap) =
    if not (nat_le initial interval_limit && nat_le cap interval_limit) then Err (error.Retry retry.IntervalTooLong)
    else if not (nat_le 1 denominator && nat_le denominator numerator && nat_le numerator 1000) then Err (error.Retry retry.BadMultiplier)
    else if nat_lt cap initial then Err (error.Retry retry.CapBelowInitial)
    else Ok (interval.Exponential initial numerator denominator cap)

-- the settings of a retry with this interval, if its number of attempts is from 1 to 1,000
abbrev pub build_settings : RetrySpec → Backoff → Result RetryConfigView HeadError
build_settings said waits =
    if said.attempts == 0 then Err (error.Retry retry.NoAttempts)
    else if nat_lt attempt_limit said.attempts then Err (error.Retry retry.TooManyAttempts)
    else Ok (record {
      max_attempts = said.attempts;
      interval = waits;
      result_test = said.result_test;
      error_test = said.error_test;
      fail_after_max = said.fail_after_max;
    })

-- a retry: first the interval, then the attempts
abbrev pub build_retry : RetrySpec → Result RetryConfigView HeadError
build_retry said = and_then (build_interval said.interval) (build_settings said)

-- a layer, and the registry after its bulkhead was obtained
pub record BuiltLayer : Type 0 where
  pub layer : Layer
  pub lists : RegistryView ℕ

-- the layer that a head asks for; a bulkhead has the id that the registry gives it
abbrev pub build_layer : RegistryView ℕ → LayerSpec → Result BuiltLayer HeadError
build_layer lists (Retry said) = and_then (build_retry said) (λ settings. Ok (record { layer = layer.Retry settings; lists = lists }))
build_layer lists (Bulkhead name config) =
    and_then (obtained lists name config) (λ got. Ok (record { layer = layer.Bulkhead (layer_id got.id); lists = got.lists }))
build_layer lists (Fallback catch value) = Ok (record { layer = layer.Fallback catch value; lists = lists })

-- layers, and the registry after the last of them
pub record BuiltLayers : Type 0 where
  pub layers : List Layer
  pub lists : RegistryView ℕ

-- the layers that a head asks for, each in turn; the registry goes from one to the next
abbrev pub build_layers : RegistryView ℕ → List LayerSpec → Result BuiltLayers HeadError
build_layers lists [] = Ok (record { layers = []; lists = lists })
build_layers lists (said ∷ more) =
    and_then (build_layer lists said) (λ allowed.
    and_then (build_layers allowed.lists more) (λ rest. Ok (record { layers = allowed.layer ∷ rest.layers; lists = rest.lists })))

-- the layers, if they make a chain: first their number is checked, then the number of calls that they may make
abbrev pub chain_from_layers : List Layer → Result (List Layer) HeadError
chain_from_layers layers =
    if nat_lt layer_limit (length layers) then Err (error.Chain chain.TooManyLayers)
    else if nat_lt call_limit (max_calls layers) then Err (error.Chain chain.TooManyCalls)
    else Ok layers
