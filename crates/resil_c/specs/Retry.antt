-- The interval whose numbers C has.
use Rattle.std.specs.Prelude.{◌==◌, Option, Some, None, if◌then◌else◌}
use Rattle.resil_retry.specs.declared.interval.Backoff.{Backoff}
use Rattle.resil_retry.specs.declared.interval.Backoff.TheVariants.{Fixed, Exponential}
use Rattle.resil_c.specs.declared.retry.interval.RetryInterval.{RetryInterval}

-- kind 1 is a fixed interval and kind 2 an exponential one; any other kind is no interval. Whether the interval may be made is another question
abbrev pub backoff_of : RetryInterval → Option Backoff
backoff_of interval =
    if interval.kind == 1 then Some (Fixed interval.initial)
    else if interval.kind == 2 then Some (Exponential interval.initial interval.numerator interval.denominator interval.cap)
    else None
