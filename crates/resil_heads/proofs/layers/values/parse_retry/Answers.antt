use Rattle.std.proofs.Common.{refl}
use Rattle.resil_heads.specs.LayerValues.{parse_retry}
use Rattle.resil_heads.proofs.layers.values.parse_retry.Goals as goal

pub returns : goal.returns
unfolding parse_retry
returns c =
    rw (← c.in_ok-attempts.ensures, ← c.in_ok-interval.ensures, c.in_ok-error_test.ensures, ← c.in_ok-result_test.ensures, ← c.in_ok-fail_after_max.ensures) refl
