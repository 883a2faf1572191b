-- The peak of some levels, and columns followed by one more.
use Rattle.std.proofs.Common.{◌≡◌, ◌+◌, ◌∷◌, [], ◌++◌, ℕ, List, length, get_or, Option}
use Rattle.std.specs.List.{IsFirstMaxByKey}
use Rattle.resil_jdk.specs.declared.event.JdkEvent.{JdkEvent}
use Rattle.resil_stats.specs.Columns.{AreColumnsFrom, HasLastSizes, IsColumnEnd, IsColumnOf, IsPeakAmong}
use Rattle.resil_stats.specs.declared.columns.Column.{Column}
use Rattle.resil_stats.specs.declared.depth.Level.{Level}
use Rattle.resil_stats.specs.declared.window.Window.{Window}
use Rattle.std.proofs.lemmas.Option.{get_or_from_slice_get, slice_get-get_or}

-- the first level at which the most jobs run is the peak
pub peak_is : (levels : List Level) (place : ℕ) (d : Level) → IsFirstMaxByKey (λ level. level.running) levels (length levels) place → IsPeakAmong levels (length levels) (get_or levels place d)
peak_is levels place d (within, most, first) = record {
  first = (place, slice_get-get_or levels place d within, λ i other before at. rw (← get_or_from_slice_get levels i other d at) (first i d before));
  no_more = λ i other below at. rw (← get_or_from_slice_get levels i other d at) (most i d below);
}

-- columns stay columns with one more at their end
pub columns-push : (events : List JdkEvent) (levels : List Level) (times : Option (List ℕ)) (window : Window) (from done end : ℕ) (columns : List Column) (new : Column) → IsColumnOf events levels new → HasLastSizes levels new → new.from ≡ done + 1 → new.to ≡ end
    → IsColumnEnd times window done end → AreColumnsFrom events levels times window from done columns → AreColumnsFrom events levels times window from end (columns ++ new ∷ [])
columns-push events levels times window from done end [] new is sizes at to ends same = (is, sizes, rw same at, rw (same, to) ends, to)
columns-push events levels times window from done end (column ∷ columns) new is sizes at to ends (own, kept, first, last, rest) =
    (own, kept, first, last, columns-push events levels times window column.to done end columns new is sizes at to ends rest)
