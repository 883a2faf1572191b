-- Tries that were refused, one after the other.
use Rattle.std.proofs.Common.{ℕ, zero, suc, ◌≡◌, ◌<◌, inl, inr, refl, sym, ◌∙◌, subst}
use Rattle.std.specs.Prelude.{Bool, ◌-◌}
use Rattle.std.specs.Time.{instant_nanos}
use Rattle.std.specs.declared.time.Instant.{Instant}
use Rattle.resil_clock.specs.Readings.{Readings}
use Rattle.resil_clock.specs.Waits as clock
use Rattle.resil_permit.specs.Passes.{PassView, IsSamePass}
use Rattle.resil_permit.specs.Waits.{HasWaited, IsRefusedTry}

same_pass : (p : PassView) → IsSamePass p p
same_pass p = record { source = refl; number = refl }

still_same : (p q r : PassView) → IsSamePass p q → IsSamePass q r → IsSamePass p r
still_same p q r first second = record { source = second.source ∙ first.source; number = second.number ∙ first.number }

-- one refused try more, after which something of the wait is left
once_more : (longest spent : ℕ) (p q r : PassView) → HasWaited longest p q → IsRefusedTry q r → spent < longest → HasWaited longest p r
once_more longest spent p q r waited refused early =
    record { refusals = suc waited.refusals; refused = (q, spent, waited.refused, refused.same, refused.tried, early); same = still_same p q r waited.same refused.same }

not_yet : (longest : ℕ) (p : PassView) → HasWaited longest p p
not_yet longest p = record { refusals = zero; refused = refl; same = same_pass p }

module _ (HasSaid : Readings) (longest : ℕ) (start : Instant) where
  -- the same without what the clock said
  each_refused : (n : ℕ) (p q r : PassView) (last : Instant) → HasWaited longest p q → clock.IsRefusedTimes HasSaid longest start IsRefusedTry n q r last → HasWaited longest p r
  each_refused zero p q r last waited (is, _) = subst (HasWaited longest p) (sym is) waited
  each_refused (suc n) p q r last waited (between, before, rest, refused, said, early) =
      once_more longest (instant_nanos last - instant_nanos start) p between r (each_refused n p q between before waited rest) refused early

-- who has waited by a clock has waited
pub waited_by : (HasSaid : Readings) (longest max : ℕ) (p waited : PassView) (refused : Bool) → clock.HasWaited HasSaid longest IsRefusedTry (max ≡ 0) p waited refused → HasWaited longest p waited
waited_by HasSaid longest max p waited refused (inl none) = subst (HasWaited longest p) (sym none.same) (not_yet longest p)
waited_by HasSaid longest max p waited refused (inr long) =
    let first = once_more longest 0 p p long.first (not_yet longest p) long.at_first long.some in
    each_refused HasSaid longest long.start long.since.in_time.refusals p long.first waited long.since.last first long.since.in_time.refused
