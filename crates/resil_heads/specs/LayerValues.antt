-- What the layers of a head say: the kind of each, the keys that it may have and those that it needs, and the values at them.
-- A head is refused for the first fault of the earliest stage.
use Rattle.std.specs.Prelude.{ℕ, false, List, [], ◌∷◌, Option, Some, None, Result, Ok, if◌then◌else◌, codes}
use Rattle.resil_registry.specs.Registry.{default_name}
use Rattle.toml.specs.Data.{Members}
use Rattle.resil_retry.specs.Interval.{interval_limit}
use Rattle.resil_retry.specs.ErrorTest.{ErrorTestView}
use Rattle.resil_retry.specs.declared.result_test.ResultTest.TheVariants.{Never}
use Rattle.resil_heads.specs.Checks.{and_then}
use Rattle.resil_heads.specs.Document.{Keys, check_known, check_required}
use Rattle.resil_heads.specs.Keys.{each, parse_at, parse_required_at, parse_count, parse_wait, parse_flag, parse_fraction, parse_kinds, parse_integer, parse_named, parse_tables, parse_text, result_test_from_name}
use Rattle.resil_input.specs.TextEquality.{is_same}
use Rattle.resil_heads.specs.declared.layers.values.BackoffKind.{BackoffKind}
use Rattle.resil_heads.specs.declared.layers.values.BackoffKind.TheVariants as backoff
use Rattle.resil_heads.specs.declared.layers.values.IntervalSpec.{IntervalSpec}
use Rattle.resil_heads.specs.declared.layers.values.IntervalSpec.TheVariants.{Fixed, Exponential}
use Rattle.resil_heads.specs.declared.layers.values.LayerKind.{LayerKind}
use Rattle.resil_heads.specs.declared.layers.values.LayerKind.TheVariants as kind
use Rattle.resil_heads.specs.declared.layers.values.RetrySpec.{RetrySpec}
use Rattle.resil_heads.specs.declared.layers.values.Stage.{Stage}
use Rattle.resil_heads.specs.declared.layers.values.Stage.TheVariants as stage
use Rattle.resil_heads.specs.declared.layers.values.LayerSpec.{LayerSpec}
use Rattle.resil_heads.specs.declared.layers.values.LayerSpec.TheVariants.{Retry, Bulkhead, Fallback}
use Rattle.resil_heads.specs.declared.error.HeadError.{HeadError}

-- the kind that a string names
abbrev pub layer_kind_from_name : List ℕ → Option LayerKind
layer_kind_from_name text =
    if is_same text (codes "retry") then Some kind.Retry
    else if is_same text (codes "bulkhead") then Some kind.Bulkhead
    else if is_same text (codes "fallback") then Some kind.Fallback
    else None

-- the backoff that a string names
abbrev pub backoff_from_name : List ℕ → Option BackoffKind
backoff_from_name text =
    if is_same text (codes "fixed") then Some backoff.Fixed
    else if is_same text (codes "exponential") then Some backoff.Exponential
    else None

-- the kind of a layer, which is required
abbrev pub kind_in : Members → Result LayerKind HeadError
kind_in layer = parse_required_at (parse_named layer_kind_from_name) (codes "kind") layer

-- the backoff of a retry, which is fixed if the layer names none
abbrev pub backoff_in : Members → Result BackoffKind HeadError
backoff_in layer = parse_at (parse_named backoff_from_name) backoff.Fixed (codes "backoff") layer

-- the keys of a retry; those of the multiplier and the cap only if its waits grow by them
abbrev pub retry_keys : BackoffKind → List (List ℕ)
retry_keys backoff.Fixed = codes "kind" ∷ codes "attempts" ∷ codes "interval" ∷ codes "backoff" ∷ codes "retry_on" ∷ codes "ignore"
    ∷ codes "retry_result" ∷ codes "fail_after_max" ∷ []
retry_keys backoff.Exponential = codes "kind" ∷ codes "attempts" ∷ codes "interval" ∷ codes "backoff" ∷ codes "multiplier" ∷ codes "cap"
    ∷ codes "retry_on" ∷ codes "ignore" ∷ codes "retry_result" ∷ codes "fail_after_max" ∷ []

-- the keys of a layer of this kind
abbrev pub keys_of_kind : Members → LayerKind → Result Keys HeadError
keys_of_kind layer kind.Retry =
    and_then (backoff_in layer) (λ growth. Ok (record { known = retry_keys growth; required = codes "kind" ∷ [] }))
keys_of_kind layer kind.Bulkhead =
    Ok (record { known = codes "name" ∷ codes "kind" ∷ codes "config" ∷ []; required = codes "name" ∷ codes "kind" ∷ [] })
keys_of_kind layer kind.Fallback =
    Ok (record { known = codes "value" ∷ codes "kind" ∷ codes "catch" ∷ codes "ignore" ∷ []; required = codes "value" ∷ codes "kind" ∷ [] })

-- the keys of a layer, by its kind and the backoff of a retry
abbrev pub keys_in : Members → Result Keys HeadError
keys_in layer = and_then (kind_in layer) (keys_of_kind layer)

-- what a layer is checked for at a stage
abbrev pub check_layer : Stage → Members → Result (Unit {0}) HeadError
check_layer stage.Kind layer = and_then (kind_in layer) (λ _. Ok tt)
check_layer stage.Backoff layer = and_then (keys_in layer) (λ _. Ok tt)
check_layer stage.Known layer = and_then (keys_in layer) (λ keys. check_known keys layer)
check_layer stage.Required layer = and_then (keys_in layer) (λ keys. check_required keys layer)

-- a stage over all layers; the first that fails gives the error
abbrev pub check_layers : Stage → List Members → Result (Unit {0}) HeadError
check_layers stage [] = Ok tt
check_layers stage (layer ∷ more) = and_then (check_layer stage layer) (λ _. check_layers stage more)

-- the waits from this first one on: equal, or growing by 3/2 and up to the longest wait if the head doesn't say
unfoldable pub waits_from : BackoffKind → Members → ℕ → Result IntervalSpec HeadError
waits_from backoff.Fixed layer initial = Ok (Fixed initial)
waits_from backoff.Exponential layer initial =
    and_then (parse_at parse_fraction (3, 2) (codes "multiplier") layer) (λ multiplier.
    and_then (parse_at parse_wait interval_limit (codes "cap") layer) (λ cap.
    Ok (Exponential initial multiplier.0 multiplier.1 cap)))

-- the waits of a retry, of 500 ms if the head doesn't say
abbrev pub parse_interval : BackoffKind → Members → Result IntervalSpec HeadError
parse_interval growth layer = and_then (parse_at parse_wait 500 (codes "interval") layer) (waits_from growth layer)

-- the kinds of error that a layer acts on, under the key that lists them, and those that it ignores
unfoldable pub parse_error_test : List ℕ → Members → Result ErrorTestView HeadError
parse_error_test listed layer =
    and_then (parse_at parse_kinds [] listed layer) (λ named.
    and_then (parse_at parse_kinds [] (codes "ignore") layer) (λ ignored.
    Ok (record { named = named; ignored = ignored })))

-- a retry of this backoff: 3 attempts, every error and no value retried, if the head doesn't say
unfoldable pub parse_retry : BackoffKind → Members → Result RetrySpec HeadError
parse_retry growth layer =
    and_then (parse_at parse_count 3 (codes "attempts") layer) (λ attempts.
    and_then (parse_interval growth layer) (λ interval.
    and_then (parse_error_test (codes "retry_on") layer) (λ error_test.
    and_then (parse_at (parse_named result_test_from_name) Never (codes "retry_result") layer) (λ result_test.
    and_then (parse_at parse_flag false (codes "fail_after_max") layer) (λ fail_after_max.
    Ok (record {
      attempts = attempts;
      interval = interval;
      result_test = result_test;
      error_test = error_test;
      fail_after_max = fail_after_max;
    }))))))

-- a bulkhead: the name is required, and the configuration is `default` if the head doesn't say
unfoldable pub parse_bulkhead : Members → Result LayerSpec HeadError
parse_bulkhead layer =
    and_then (parse_required_at parse_text (codes "name") layer) (λ name.
    and_then (parse_at parse_text default_name (codes "config") layer) (λ config.
    Ok (Bulkhead name config)))

-- a fallback: the value is required
unfoldable pub parse_fallback : Members → Result LayerSpec HeadError
parse_fallback layer =
    and_then (parse_required_at parse_integer (codes "value") layer) (λ value.
    and_then (parse_error_test (codes "catch") layer) (λ catch.
    Ok (Fallback catch value)))

-- what a layer of this kind says
abbrev pub parse_of_kind : Members → LayerKind → Result LayerSpec HeadError
parse_of_kind layer kind.Retry =
    and_then (backoff_in layer) (λ growth.
    and_then (parse_retry growth layer) (λ retry. Ok (Retry retry)))
parse_of_kind layer kind.Bulkhead = parse_bulkhead layer
parse_of_kind layer kind.Fallback = parse_fallback layer

-- what a layer says, by its kind
abbrev pub parse_layer : Members → Result LayerSpec HeadError
parse_layer layer = and_then (kind_in layer) (parse_of_kind layer)

-- The layers that a head asks for, innermost first: `layer` is an array of tables, and then each stage goes over all layers. The keys of
-- the head, which are given, are checked together with those of the layers.
abbrev pub requested_layers : Keys → Members → Result (List LayerSpec) HeadError
requested_layers keys head =
    and_then (parse_at parse_tables [] (codes "layer") head) (λ layers.
    and_then (check_layers stage.Kind layers) (λ _.
    and_then (check_layers stage.Backoff layers) (λ _.
    and_then (check_known keys head) (λ _.
    and_then (check_layers stage.Known layers) (λ _.
    and_then (check_required keys head) (λ _.
    and_then (check_layers stage.Required layers) (λ _.
    each parse_layer layers)))))))
