-- Heads of a pool worked by hand, to read the definitions against: what a head says, or the one error that is reported for
-- it. Each is a TOML text. If a head has several faults, the line above it says which of them decides.
use Rattle.std.specs.Prelude.{ℕ, ◌≡◌, Ok, Err, codes}
use Rattle.resil_rule.specs.Limits.{Sizes}
use Rattle.resil_rule.specs.declared.error.AdmitError.TheVariants as pool
use Rattle.resil_heads.specs.declared.error.HeadError.TheVariants as error
use Rattle.resil_replay.specs.Head.{pool_head_of}

abbrev pub sizes : ℕ → ℕ → ℕ → Sizes
sizes core max queue = record { core = core; max = max; queue = queue }

pub record WorkedPoolHeads : Type 0 where
  -- the queue has room for 100 jobs if the head doesn't say
  pub two_sizes : pool_head_of (codes "core = 1\nmax = 2\n") ≡ Ok (sizes 1 2 100)
  -- the order of the keys doesn't matter
  pub three_sizes : pool_head_of (codes "queue = 3\nmax = 2\ncore = 1") ≡ Ok (sizes 1 2 3)
  -- no TOML at all, though a key would be unknown too
  pub not_toml : pool_head_of (codes "cores = 1\nmax =") ≡ Err error.BadToml
  -- an unknown key, though a required one is missing
  pub unknown_key : pool_head_of (codes "cores = 1\nmax = 2") ≡ Err error.UnknownKey
  -- a required key that is missing, though a value is bad
  pub missing_key : pool_head_of (codes "core = true") ≡ Err error.MissingKey
  -- a bad value, though a size is out of its range
  pub bad_value : pool_head_of (codes "core = 0\nmax = true") ≡ Err error.BadValue
  -- the core size, though the maximum size is out of its range too
  pub core_size : pool_head_of (codes "core = 0\nmax = 65") ≡ Err (error.Limits pool.CoreOutOfRange)
