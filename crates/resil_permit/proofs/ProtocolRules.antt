-- What a step of one pass leaves of the rule of the word.
use Rattle.std.proofs.Common.{◌≡◌, ◌≢◌, ℕ, ◌+◌, Bool, List, [], ◌∷◌, ◌++◌, length, set, get_or, refl, sym, ap, ◌∙◌, subst, arith, length-set, get_or-set_same}
use Rattle.std.specs.Prelude.{count_by}
use mathlib.Core.Option.{some}
use mathlib.Core.List.{IsPrefix}
use lib.ListN.{get_elem?}
use Rattle.resil_permit.specs.declared.event.PermitEvent.{PermitEvent}
use Rattle.resil_permit.specs.declared.protocol.Phase.{Phase}
use Rattle.resil_permit.specs.declared.protocol.Phase.TheVariants.{Idle, Loaded, Joining, Splitting, Joined}
use Rattle.resil_permit.specs.declared.protocol.View.{View}
use Rattle.resil_permit.specs.History.{seat_of, is_taking, is_giving, is_retiring, is_raising, events_of_seat, holders_after, holders, in_use_count, IsAllowed, IsLegal}
use Rattle.resil_permit.specs.Log.Seats.{IsSeenWhole}
use Rattle.resil_permit.specs.Rule.{view_of, IsLive, FitsPassPhase, Fits, PermitWordInvariant}
use Rattle.resil_permit.specs.Steps.{PassSeat, IsSame}
use Rattle.resil_permit.proofs.Histories.{events_of_seat-other, holders-push, IsLegal-push}
use Rattle.resil_permit.proofs.Log.Prefixes.{prefix_self, prefix_trans}
use Rattle.resil_permit.proofs.Log.Seats.{live_later, live_whole, seen_here, log_moves}

-- a log that grew, with no event of this place, keeps what was known at the place
pub fits_later : (max place : ℕ) (log now : List PermitEvent) (v : View) (p : Phase) → IsPrefix log now → events_of_seat place now ≡ events_of_seat place log → FitsPassPhase max log place v p → FitsPassPhase max now place v p
fits_later max place log now v Idle more same k = live_later k more same
fits_later max place log now v (Loaded n) more same k = record { live = live_later k.live more same; some = k.some; free = k.free }
fits_later max place log now v (Joining number mine other) more same k = record {
  live = live_later k.live more same;
  begins = prefix_trans mine log now k.begins more;
  other_begins = prefix_trans other log now k.other_begins more;
  all_own = k.all_own ∙ sym same;
  apart = k.apart;
}
fits_later max place log now v Splitting more same k = record { unnumbered = k.unnumbered; bounded = k.bounded; begins = prefix_trans v.seen log now k.begins more; no_events = same ∙ k.no_events }
fits_later max place log now v Joined more same k = record {
  nothing_seen = k.nothing_seen;
  even = ap (λ es. count_by is_taking es) same ∙ (k.even ∙ ap (λ es. count_by is_giving es + count_by is_retiring es) (sym same));
  none_retired = ap (λ es. count_by is_retiring es) same ∙ (k.none_retired ∙ ap (λ es. count_by is_raising es) (sym same));
}

pub live_at : (max : ℕ) (words : List ℕ) (views : List View) (k : PermitWordInvariant max words views) (place : ℕ) (v : View) → get_elem? views place ≡ some v → v.phase ≡ Idle → IsLive max k.log place v
live_at max words views k place v at idle = subst (FitsPassPhase max k.log place v) idle (k.shared.each place v at)

-- what a pass took, gave back, retired and raised, by what it has seen, is what the log has of it
pub counts_of_live : (max place : ℕ) (log : List PermitEvent) (v : View) → IsLive max log place v → (kind : PermitEvent → Bool)
    → count_by kind (events_of_seat place log) ≡ count_by kind (events_of_seat v.number v.seen)
counts_of_live max place log v live kind = ap (count_by kind) (sym live.all_own) ∙ ap (λ (n : ℕ). count_by kind (events_of_seat n v.seen)) (sym live.numbered)

-- a step leaves the pass its number and its permits
pub same : (max place : ℕ) (log : List PermitEvent) (m : PassSeat) → IsLive max log place m.0 → (seen : List PermitEvent) (p : Phase) → IsSame m (view_of place max seen p, m.1)
same max place log m live seen p = record { slots = refl; number = sym live.numbered; max = sym live.keyed }

module _ (max n place : ℕ) (words : List ℕ) (views : List View) (k : PermitWordInvariant max words views) (v : View) (at : get_elem? views place ≡ some v) where
  -- a step after which the view at the place is w, the word is n and the log is `now`
  unfoldable pub moved : (w : View) (now : List PermitEvent) → IsPrefix k.log now → IsLegal max now → n + length (holders now) ≡ in_use_count max now → ((j : ℕ) → j ≢ place → events_of_seat j now ≡ events_of_seat j k.log) → Fits max now place w
      → IsSeenWhole (λ (u : View). u.seen) now (set views place w) → PermitWordInvariant max (set words 0 n) (set views place w)
  moved w now more legal counts others mine long = record {
    log = now;
    few = k.few;
    one_word = length-set words 0 n ∙ k.one_word;
    counts = ap (λ (m : ℕ). m + length (holders now)) (get_or-set_same words 0 n 0 (omega arith)) ∙ counts;
    shared = log_moves k.shared now (Fits max now) place v w at legal others mine (λ j u apart e fits. fits_later max j k.log now u u.phase more (others j apart) fits) long;
  }

  -- a step that adds an event of its pass
  unfoldable pub added : (e : PermitEvent) → seat_of e ≡ place → IsAllowed max k.log e → n + length (holders_after (holders k.log) e) ≡ in_use_count max (k.log ++ e ∷ [])
      → PermitWordInvariant max (set words 0 n) (set views place (view_of place max (k.log ++ e ∷ []) Idle))
  added e is may counts =
      let now = k.log ++ e ∷ [] in
      let w = view_of place max now Idle in
      moved w now (e ∷ [], refl) (IsLegal-push max k.log e k.shared.legal may) (ap (λ (multiset : List ℕ). n + length multiset) (holders-push k.log e) ∙ counts)
      (λ j apart. events_of_seat-other j k.log e (λ same. apart (sym same ∙ is)))
      (live_whole now refl refl)
      (seen_here views place v w at refl)

  -- a step that adds none and leaves the word
  unfoldable pub looked_on : (p : Phase) → n ≡ get_or words 0 0 → (IsLive max k.log place (view_of place max k.log p) → FitsPassPhase max k.log place (view_of place max k.log p) p)
      → PermitWordInvariant max (set words 0 n) (set views place (view_of place max k.log p))
  looked_on p same fits =
      let w = view_of place max k.log p in
      moved w k.log (prefix_self k.log) k.shared.legal (ap (λ (m : ℕ). m + length (holders k.log)) same ∙ k.counts) (λ j apart. refl) (fits (live_whole k.log refl refl)) (seen_here views place v w at refl)
