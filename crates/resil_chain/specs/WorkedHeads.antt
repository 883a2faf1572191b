-- Heads of a `chain` worked by hand, to read the definitions against: what a head says, or the one error that is reported for
-- it. Each is a TOML text. If a head has several faults, the line above it says which of them decides.
use Rattle.std.specs.Prelude.{ℕ, ◌≡◌, pos, false, [], ◌∷◌, Ok, Err, codes}
use Rattle.resil_decor.specs.declared.error.DecorError.TheVariants as chain
use Rattle.resil_decor.specs.declared.layer.Layer.{Layer}
use Rattle.resil_decor.specs.declared.layer.Layer.TheVariants as layer
use Rattle.resil_registry.specs.declared.error.RegistryError.TheVariants as registry
use Rattle.resil_retry.specs.declared.error.RetryError.TheVariants as retry
use Rattle.resil_retry.specs.declared.interval.Backoff.{Backoff}
use Rattle.resil_retry.specs.declared.interval.Backoff.TheVariants.{Fixed, Exponential}
use Rattle.resil_retry.specs.declared.outcome.Kind.TheVariants.{Code}
use Rattle.resil_retry.specs.declared.result_test.ResultTest.TheVariants.{Never}
use Rattle.resil_heads.specs.declared.error.HeadError.TheVariants as error
use Rattle.resil_chain.specs.Head.{chain_head_of}

-- a retry with this number of attempts, of every error and no value
abbrev pub retry_of_errors : ℕ → Backoff → Layer
retry_of_errors attempts interval = layer.Retry (record {
  max_attempts = attempts;
  interval = interval;
  result_test = Never;
  error_test = record { named = []; ignored = [] };
  fail_after_max = false;
})

pub record WorkedChainHeads : Type 0 where
  -- no layers
  pub empty : chain_head_of (codes "") ≡ Ok []
  -- a retry makes 3 attempts, and waits 500 ms between them, if the head doesn't say
  pub plain_retry : chain_head_of (codes "[[layer]]\nkind = 'retry'") ≡ Ok (retry_of_errors 3 (Fixed 500) ∷ [])
  -- waits grow by 3/2 if the head doesn't say, here up to 2,000 ms
  pub growing_waits : chain_head_of (codes "[[layer]]\nkind = 'retry'\nbackoff = 'exponential'\nattempts = 6\ncap = 2000")
      ≡ Ok (retry_of_errors 6 (Exponential 500 3 2 2000) ∷ [])
  -- a bulkhead has the id of its name, from 0 in the order in which the layers name them
  pub three_bulkheads : chain_head_of (codes "layer = [{kind = 'bulkhead', name = 'a'}, {kind = 'bulkhead', name = 'b'}, {kind = 'bulkhead', name = 'a'}]")
      ≡ Ok (layer.Bulkhead 0 ∷ layer.Bulkhead 1 ∷ layer.Bulkhead 0 ∷ [])
  -- the first layer in the text is the innermost
  pub fallback_outside : chain_head_of (codes "layer = [{kind = 'bulkhead', name = 'db'}, {kind = 'fallback', value = 7, catch = ['E2']}]")
      ≡ Ok (layer.Bulkhead 0 ∷ layer.Fallback (record { named = Code 2 ∷ []; ignored = [] }) (pos 7) ∷ [])
  -- a layer without a kind, though another key is unknown too
  pub missing_kind : chain_head_of (codes "layers = 1\nlayer = [{}]") ≡ Err error.MissingKey
  -- an unknown key, since only waits that grow have a cap, though the next layer has no name
  pub unknown_key : chain_head_of (codes "layer = [{kind = 'retry', cap = 1}, {kind = 'bulkhead'}]") ≡ Err error.UnknownKey
  -- a bulkhead without a name, though a value before it is bad
  pub missing_name : chain_head_of (codes "layer = [{kind = 'retry', attempts = true}, {kind = 'bulkhead'}]") ≡ Err error.MissingKey
  -- a bad value, though a retry before it can't be built
  pub bad_value : chain_head_of (codes "layer = [{kind = 'retry', attempts = 0}, {kind = 'fallback', value = 'x'}]") ≡ Err error.BadValue
  -- a configuration, though a layer can't be built either; the first in byte order, though it isn't the first in the text
  pub first_configuration : chain_head_of (codes "permits = {default = 1, 'a b' = 1}\nlayer = [{kind = 'retry', attempts = 0}]")
      ≡ Err (error.Registry registry.BadName)
  -- the interval, though the attempts are too few
  pub long_interval : chain_head_of (codes "layer = [{kind = 'retry', attempts = 0, interval = 31536000001}]") ≡ Err (error.Retry retry.IntervalTooLong)
  -- two retries that may make 1,040 calls together
  pub many_calls : chain_head_of (codes "layer = [{kind = 'retry', attempts = 40}, {kind = 'retry', attempts = 26}]") ≡ Err (error.Chain chain.TooManyCalls)
