-- The rule of the word gives what holds between any two steps.
use Rattle.std.proofs.Common.{◌≡◌, ℕ, List, refl, sym, ◌∙◌, subst}
use mathlib.Core.List.{IsPrefix}
use Rattle.resil_permit.specs.declared.event.PermitEvent.{PermitEvent}
use Rattle.resil_permit.specs.declared.protocol.Phase.{Phase}
use Rattle.resil_permit.specs.declared.protocol.Phase.TheVariants.{Idle, Loaded, Joining, Splitting, Joined}
use Rattle.resil_permit.specs.declared.protocol.View.{View}
use Rattle.resil_permit.specs.Rule.{FitsPassPhase, PermitWordInvariant}
use Rattle.resil_permit.specs.BetweenSteps.{IsPassAt, IsHistory, HasNumber, HasSeenItsEvents, HoldsBetweenSteps}
use Rattle.resil_permit.proofs.Log.Prefixes.{prefix_length, prefix_whole}
use Rattle.resil_permit.proofs.Totals.{adds_up}

-- what any pass has seen is a prefix of the log, with all events of its number, which is its place
abbrev IsTold : List PermitEvent → ℕ → View → Phase → Type 0
IsTold log place v p = IsPrefix v.seen log × (HasNumber p → v.number ≡ place) × HasSeenItsEvents log place v p

told_of : (max : ℕ) (log : List PermitEvent) (place : ℕ) (v : View) (p : Phase) → FitsPassPhase max log place v p → IsTold log place v p
told_of max log place v Idle k = (k.begins, (λ has. k.numbered), k.all_own)
told_of max log place v (Loaded n) k = (k.live.begins, (λ has. k.live.numbered), k.live.all_own)
told_of max log place v (Joining number mine other) k = (k.live.begins, (λ has. k.live.numbered), k.live.all_own)
told_of max log place v Splitting k = (k.begins, (λ has. absurd has), k.no_events)
told_of max log place v Joined k = (subst (λ (es : List PermitEvent). IsPrefix es log) (sym k.nothing_seen) (log, refl), (λ has. absurd has), (k.even, k.none_retired))

module _ (max : ℕ) (words : List ℕ) (views : List View) (k : PermitWordInvariant max words views) where
  told : (index : ℕ) (v : View) → IsPassAt views index v → IsTold k.log index v v.phase
  told index v at = told_of max k.log index v v.phase (k.shared.each index v at)

  -- the log is the history
  pub log_is_history : IsHistory k.log views
  log_is_history = record {
    index = k.shared.longest.index;
    pass = k.shared.longest.seat;
    there = k.shared.longest.there;
    whole = k.shared.longest.whole;
    prefixes = λ index v at. (told index v at).0;
  }

  -- and no other list of events is
  pub history_is_log : (history : List PermitEvent) → IsHistory history views → history ≡ k.log
  history_is_log history h =
      let within = subst (λ (es : List PermitEvent). IsPrefix es k.log) h.whole (told h.index h.pass h.there).0 in
      let whole = subst (λ (es : List PermitEvent). IsPrefix es history) k.shared.longest.whole (h.prefixes k.shared.longest.index k.shared.longest.seat k.shared.longest.there) in
      prefix_whole history k.log within (prefix_length k.log history whole)

  pub holds_between_steps : HoldsBetweenSteps max words views
  holds_between_steps = record {
    history = k.log;
    legal = k.shared.legal;
    longest = log_is_history;
    numbered = λ index v at. (told index v at).1;
    apart = λ index other v w at there differ has has' same. differ (sym ((told index v at).1 has) ∙ (same ∙ (told other w there).1 has'));
    own = λ index v at. (told index v at).2;
    no_others = k.shared.no_others;
    one_word = k.one_word;
    word = k.counts;
    loaded = λ index v n at is.
        let fits : FitsPassPhase max k.log index v (Loaded n) = subst (FitsPassPhase max k.log index v) is (k.shared.each index v at) in (fits.some, fits.free);
    adds_up = (adds_up max words views k).0;
    most = (adds_up max words views k).1;
  }
