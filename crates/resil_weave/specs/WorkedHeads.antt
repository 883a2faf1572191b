-- Heads of a `weave` worked by hand, to read the definitions against: what a head says, or the one error that is reported for
-- it. Each is a TOML text. If a head has several faults, the line above it says which of them decides.
use Rattle.std.specs.Prelude.{◌≡◌, Ok, Err, codes}
use Rattle.resil_heads.specs.declared.error.HeadError.TheVariants as error
use Rattle.resil_weave.specs.Head.{weave_head_of}

pub record WorkedWeaveHeads : Type 0 where
  -- 25 permits if the head doesn't say
  pub empty : weave_head_of (codes "") ≡ Ok 25
  pub three_permits : weave_head_of (codes "permits = 3") ≡ Ok 3
  -- an unknown key, though a value is bad too
  pub unknown_key : weave_head_of (codes "permits = -1\npermit = 3") ≡ Err error.UnknownKey
  pub bad_value : weave_head_of (codes "permits = -1") ≡ Err error.BadValue
  pub too_many : weave_head_of (codes "permits = 65536") ≡ Err error.TooManyPermits
