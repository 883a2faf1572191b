-- The bars of a history, with one more event.
use Rattle.std.proofs.Common.{◌≡◌, ◌<◌, ◌≤◌, ◌+◌, ◌∷◌, [], ◌++◌, ◌∙◌, ℕ, zero, suc, inl, inr, List, Some, None, drop, get_or, length, nat_lt, option_map, slice_get, take, refl, sym, ap, arith}
use Rattle.std.specs.List.{position_or_len}
use Rattle.std.proofs.lemmas.List.{map-append}
use Rattle.std.proofs.lemmas.Bool.Decides.{eqb_tells}
use Rattle.std.proofs.lemmas.Option.{slice_get_within}
use Rattle.resil_jdk.specs.Admission.{IsLegal}
use Rattle.resil_rule.specs.Limits.{Sizes}
use Rattle.resil_rule.specs.declared.event.Id.{Id}
use Rattle.resil_jdk.specs.declared.event.JdkEvent.{JdkEvent}
use Rattle.resil_stats.specs.Bars.{IsDrawn, IsPut, IsTaken, finish_place, free_row, is_finish_of, start_at, started_at, started_of}
use Rattle.resil_stats.specs.declared.bars.Bar.{Bar}
use Rattle.resil_stats.specs.declared.bars.Start.{Start}
use Rattle.resil_stats.proofs.ListLaws.{each-more, get-kept, get-more, last-is, position-before, position-passes}
use Rattle.resil_stats.proofs.PlaceLaws.{finish-elsewhere, finish-later, made_none, made_one}

module _ (events : List JdkEvent) (i : ℕ) (d : JdkEvent) (lt : i < length events) (bars : List Bar) (ends : List ℕ) (old : IsDrawn (take i events) events bars ends) where
  -- at the event no job starts
  pub drawn-quiet : start_at (get_or events i d) ≡ None → IsDrawn (take (i + 1) events) events bars ends
  drawn-quiet none = record {
    are = record { started = old.are.started ∙ made_none started_at events i d lt (ap (option_map (λ job. record { id = job.0; start = job.1; from = i + 1 })) (sym none)); ends = old.are.ends; apart = old.are.apart; first = old.are.first; rows = old.are.rows };
    shown = old.shown;
    held = old.held;
  }

  -- a job starts at it
  module _ (limits : Sizes) (legal : IsLegal limits events) (id : Id) (start : Start) (is : start_at (get_or events i d) ≡ Some (id, start)) (new_ends : List ℕ) (to : ℕ)
      (to-is : to ≡ i + 1 + 1 + position_or_len (is_finish_of id) (drop (i + 1) events)) (put : IsPut ends new_ends (free_row (i + 1) ends) to) where
    abbrev row : ℕ
    row = free_row (i + 1) ends

    abbrev new : Bar
    new = record { id = id; start = start; from = i + 1; to = to; row = row + 1 }

    abbrev longer : List Bar
    longer = bars ++ new ∷ []

    to-place : to ≡ finish_place events id
    to-place = omega (arith, finish-later events i d id start lt is limits legal)

    -- each bar before it in its row ended
    ended : (k : ℕ) (one : Bar) → slice_get bars k ≡ Some one → one.row ≡ row + 1 → one.to < i + 1
    ended k one at same =
        let there = old.shown k one at in
        let here : there.0 ≡ row = let r = there.2 in omega (arith, r, same) in
        let passes = position-passes (λ end. nat_lt end (i + 1)) ends there.1 (ap (slice_get ends) (sym here) ∙ there.3) in
        let less : there.1 < i + 1 = search (arith, passes) in
        let le = there.4 in
        omega (arith, less, le)

    -- in each row before it a bar goes on
    taken : (r : ℕ) → 1 ≤ r → r < row + 1 → IsTaken longer (length bars) r (i + 1)
    taken zero low less = absurd (omega arith)
    taken (suc r) low less =
        let late = position-before (λ end. nat_lt end (i + 1)) ends r 0 (omega (arith, less)) in
        let le : i + 1 ≤ get_or ends r 0 = let fails = late.1 in search (arith, fails) in
        let held = old.held r (get_or ends r 0) late.0 in
        let to_is = held.4 in
        let apart : held.1.to ≡ i + 1 → ⊥ = λ same. finish-elsewhere events i d id start lt is held.1.id (sym (old.are.ends held.0 held.1 held.2) ∙ same) in
        (held.0, held.1, slice_get_within bars held.0 held.1 held.2, get-kept bars new held.1 held.0 held.2, (let r_is = held.3 in omega (arith, r_is)), omega (arith, le, to_is, apart))

    kept : (k r place : ℕ) → IsTaken bars k r place → IsTaken longer k r place
    kept k r place (j, other, less, at, is_row, after) = (j, other, less, get-kept bars new other j at, is_row, after)

    before : (k : ℕ) (one : Bar) → k < length bars → slice_get longer k ≡ Some one → slice_get bars k ≡ Some one
    before k one less at = elim (get-more bars new one k at) [ inl was ↦ was | inr last ↦ let k_is = last.0 in absurd (omega (arith, less, k_is)) ]

    shown-old : (k : ℕ) (bar : Bar) → slice_get bars k ≡ Some bar → (r : ℕ) × (end : ℕ) × (bar.row ≡ r + 1) × (slice_get new_ends r ≡ Some end) × (bar.to ≤ end)
    shown-old k bar at =
        let there = old.shown k bar at in
        elim (eqb_tells there.0 row) [
          | inl same ↦ let r = there.2 in let here = same.1 in let less = ended k bar at (omega (arith, r, here)) in (row, to, omega (arith, r, here), put.here, omega (arith, less, to-is))
          | inr other ↦ (there.0, there.1, there.2, put.others there.0 other.1 ∙ there.3, there.4)
        ]

    pub drawn-start : IsDrawn (take (i + 1) events) events longer new_ends
    drawn-start = record {
      are = record {
        started = map-append started_of bars (new ∷ []) ∙ ap (λ l. l ++ started_of new ∷ []) old.are.started
            ∙ made_one started_at events i d lt (started_of new) (ap (option_map (λ job. record { id = job.0; start = job.1; from = i + 1 })) (sym is));
        ends = each-more (λ k bar. bar.to ≡ finish_place events bar.id) bars new old.are.ends to-place;
        apart = λ k j one other less at_one at. each-more (λ j other. (k : ℕ) (one : Bar) → k < j → slice_get longer k ≡ Some one → one.row ≡ other.row → one.to < other.from) bars new
            (λ j other at k one less at_one. old.are.apart k j one other less (before k one (let within = slice_get_within bars j other at in omega (arith, less, within)) at_one) at)
            (λ k one less at_one. ended k one (before k one less at_one)) j other at k one less at_one;
        first = λ k r bar at. each-more (λ k bar. (r : ℕ) → 1 ≤ r → r < bar.row → IsTaken longer k r bar.from) bars new (λ k bar at r low less. kept k r bar.from (old.are.first k r bar at low less)) taken k bar at r;
        rows = each-more (λ k bar. 1 ≤ bar.row) bars new old.are.rows (omega arith);
      };
      shown = each-more (λ k bar. (r : ℕ) × (end : ℕ) × (bar.row ≡ r + 1) × (slice_get new_ends r ≡ Some end) × (bar.to ≤ end)) bars new shown-old (row, to, refl, put.here, (omega arith));
      held = λ r end at. elim (eqb_tells r row) [
        | inl same ↦ let here = same.1 in let ends_at : Some to ≡ Some end = sym put.here ∙ ap (slice_get new_ends) (sym here) ∙ at in (length bars, new, last-is bars new, omega (arith, here), (cc ends_at))
        | inr other ↦ let was = old.held r end (sym (put.others r other.1) ∙ at) in (was.0, was.1, get-kept bars new was.1 was.0 was.2, was.3, was.4)
      ];
    }
