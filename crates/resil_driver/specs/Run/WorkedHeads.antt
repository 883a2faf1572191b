-- Heads of a `run` worked by hand, to read the definitions against: what a head says, or the one error that is reported for
-- it. Each is a TOML text. If a head has several faults, the line above it says which of them decides.
use Rattle.std.specs.Prelude.{◌≡◌, [], ◌∷◌, Ok, Err, codes}
use Rattle.resil_rule.specs.declared.error.AdmitError.TheVariants as pool
use Rattle.resil_decor.specs.declared.layer.Layer.TheVariants as layer
use Rattle.resil_heads.specs.declared.error.HeadError.TheVariants as error
use Rattle.resil_driver.specs.Run.Head.{run_head_of}
use Rattle.resil_replay.specs.WorkedHeads.{sizes}

pub record WorkedRunHeads : Type 0 where
  -- no bulkheads and no layers, and a keep-alive of 20 empty polls, if the head doesn't say
  pub two_sizes : run_head_of (codes "core = 1\nmax = 2") ≡ Ok (record {
    limits = sizes 1 2 100;
    keep_alive = 20;
    bulkheads = record { configurations = (codes "default", 25) ∷ []; instances = [] };
    layers = [];
  })
  -- the bulkhead `db` has the configuration at index 1, of 2 permits
  pub one_bulkhead : run_head_of (codes "core = 1\nmax = 1\npermits = {small = 2}\nlayer = [{kind = 'bulkhead', name = 'db', config = 'small'}]") ≡ Ok (record {
    limits = sizes 1 1 100;
    keep_alive = 20;
    bulkheads = record { configurations = (codes "default", 25) ∷ (codes "small", 2) ∷ []; instances = (codes "db", 1) ∷ [] };
    layers = layer.Bulkhead 0 ∷ [];
  })
  -- the layers as a whole, though the required keys are missing
  pub no_layers : run_head_of (codes "layer = 1") ≡ Err error.BadValue
  -- a bad value of a layer, though the core size is out of its range
  pub bad_value : run_head_of (codes "core = 0\nmax = 1\nlayer = [{kind = 'retry', attempts = -1}]") ≡ Err error.BadValue
  -- the core size, though a configuration can't be added
  pub core_size : run_head_of (codes "core = 0\nmax = 1\npermits = {default = 1}") ≡ Err (error.Limits pool.CoreOutOfRange)
