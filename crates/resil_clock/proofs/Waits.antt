-- One more reading, and one more refusal.
use Rattle.std.proofs.Common.{ℕ, zero, suc, ◌<◌, refl}
use Rattle.std.specs.Prelude.{Option, Some, ◌-◌}
use Rattle.std.specs.Time.{instant_nanos}
use Rattle.std.specs.declared.time.Instant.{Instant}
use Rattle.resil_clock.specs.Readings.{Readings}
use Rattle.resil_clock.specs.Waits.{HasReadUntil, HasWaitedUntil}

module _ (HasSaid : Readings) (longest : ℕ) (start : Instant) where
  pub read_none : HasReadUntil HasSaid longest start start
  read_none = record { times = zero; read = refl }

  pub read_more :
      (before last : Instant) → HasReadUntil HasSaid longest start before → HasSaid (Some before) (Some last)
      → instant_nanos last - instant_nanos start < longest → HasReadUntil HasSaid longest start last
  read_more before last read said early = record { times = suc read.times; read = (before, read.read, said, early) }

  module _ {S : Type 0} (IsRefused : S → S → Type 0) where
    pub refused_none : (x : S) → HasWaitedUntil HasSaid longest start IsRefused x x start
    refused_none x = record { refusals = zero; refused = (refl, refl) }

    pub refused_more :
        (before last : Instant) (x y z : S) → HasWaitedUntil HasSaid longest start IsRefused x y before → IsRefused y z
        → HasSaid (Some before) (Some last) → instant_nanos last - instant_nanos start < longest → HasWaitedUntil HasSaid longest start IsRefused x z last
    refused_more before last x y z waited refused said early = record { refusals = suc waited.refusals; refused = (y, before, waited.refused, refused, said, early) }
