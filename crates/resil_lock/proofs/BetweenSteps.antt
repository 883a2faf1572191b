-- What holds of a lock between any two steps follows from the rule that the table keeps.
use Rattle.std.proofs.Common.{◌≡◌, ◌<◌, ◌↔◌, ℕ, zero, suc, Bool, List, [], ◌∷◌, length, slice_index, refl, sym, ap, ◌∙◌, subst, ⊎_elim, arith, Option, Some}
use mathlib.Core.Option as m
use lib.ListN.{get_elem?}
use Rattle.resil_permit.proofs.Log.Places.{place_within}
use Rattle.resil_lock.specs.declared.protocol.View.{View}
use Rattle.resil_lock.specs.declared.protocol.Rank.{Rank}
use Rattle.resil_lock.specs.Lock.{IsSeat, LockInvariant}
use Rattle.resil_lock.specs.BetweenSteps.{IsSeatAt, HasOneHolder, HasNoHolder, HasOpener, IsInSlot, HasState, IsSlotOut, HoldsBetweenSteps}
use Rattle.resil_lock.proofs.LockSteps.{state_or}

item-at : {A : Type 0} (l : List A) (i : ℕ) → i < length l → (a : A) × (get_elem? l i ≡ m.some a)
item-at [] i some = absurd (omega (arith, some))
item-at (x ∷ xs) zero some = (x, refl)
item-at (x ∷ xs) (suc i) some = item-at xs i (omega (arith, some))

module _ {K E S : Type 0} (StandsFor : K → List E → S → Type 0) (MayWrite : Rank → List E → Type 0) (is_own : ℕ → E → Bool) (key : K) (words : List ℕ) (homes : List (m.Option (Option S))) (views : List (View K E)) (k : LockInvariant StandsFor MayWrite is_own key words homes views) where
  seat : (index : ℕ) (v : View K E) → IsSeatAt views index v → IsSeat MayWrite is_own key (slice_index words 0) k.holder k.log index v
  seat index v at = (k.seats.each index v at).seat

  one-holder : slice_index words 0 ≡ 1 → HasOneHolder views
  one-holder one = let h = item-at views k.holder (k.held one) in record {
    index = k.holder;
    seat = h.0;
    there = h.1;
    holds = (seat k.holder h.0 h.1).holds.1 (refl, one);
    only = λ other v at holds. ((seat other v at).holds.0 holds).0;
  }

  taken : (slice_index words 0 ≡ 1) ↔ HasOneHolder views
  taken = (one-holder, λ h. ((seat h.index h.seat h.there).holds.0 h.holds).1)

  free : (slice_index words 0 ≡ 0) ↔ HasNoHolder views
  free = (
    λ none index v at holds. let one = ((seat index v at).holds.0 holds).1 in omega (arith, none, one),
    λ none. ⊎_elim (λ e. e) (λ one. let h = one-holder one in absurd (none h.index h.seat h.there h.holds)) k.bit,
  )

  -- the slot can't both have a state and be out
  not-both : (state : S) → IsInSlot homes state → IsSlotOut homes → ⊥
  not-both state there out = m.some-ne-none (Some state) (m.some-injective (m.some (Some state)) m.none (sym there ∙ out))

  in-slot : (slice_index words 0 ≡ 0) ↔ HasState homes
  in-slot = (
    λ none. let home = k.at_home none in (home.state, home.there),
    λ h. ⊎_elim (λ e. e) (λ one. absurd (not-both h.0 h.1 (k.away one))) k.bit,
  )

  out : (slice_index words 0 ≡ 1) ↔ IsSlotOut homes
  out = (k.away, λ away. ⊎_elim (λ none. let home = k.at_home none in absurd (not-both home.state home.there away)) (λ e. e) k.bit)

  at-home : (state : S) → IsInSlot homes state → StandsFor key k.log state
  at-home state there =
      let home = k.at_home (in-slot.1 (state, there)) in
      let same : home.state ≡ state = ap (λ (x : Option S). state_or state x) (m.some-injective (Some home.state) (Some state) (m.some-injective (m.some (Some home.state)) (m.some (Some state)) (sym home.there ∙ there))) in
      subst (λ (x : S). StandsFor key k.log x) same home.stands

  opener : HasOpener views
  opener =
      let long = k.seats.longest in
      let inside = place_within views long.index long.seat long.there in
      let first = item-at views 0 (omega (arith, inside)) in
      let opens = (seat 0 first.0 first.1).first refl in record {
        seat = first.0;
        first = first.1;
        there = ((seat 0 first.0 first.1).opener opens).1;
        opens = opens;
        only = λ index v at is. ((seat index v at).opener is).0;
      }

  pub between-steps : HoldsBetweenSteps StandsFor MayWrite is_own key words homes views
  between-steps = record {
    one_word = k.one_word;
    one_slot = k.one_slot;
    bit = k.bit;
    taken = taken;
    free = free;
    in_slot = in-slot;
    out = out;
    log = k.log;
    gone = k.gone;
    stood = k.stood;
    at_home = at-home;
    longest = (let long = k.seats.longest in record { index = long.index; seat = long.seat; there = long.there; whole = long.whole; prefixes = λ index v at. (seat index v at).begins });
    holder = λ index v at holds. (seat index v at).whole holds;
    keyed = λ index v at there. (seat index v at).keyed there;
    fits = λ index v at there. (seat index v at).fits there;
    spent = λ index v at away. (seat index v at).spent away;
    gone_fits = k.gone_fits;
    wrote = k.wrote;
    opener = opener;
    numbers = λ only. record {
      numbered = λ i v at there. ((k.seats.each i v at).numbers only).numbered there;
      counted = λ v at. ((k.seats.each 0 v at).numbers only).counted refl ∙ (k.counted only).0;
      all_own = λ i v at there. ((k.seats.each i v at).numbers only).all_own there;
      no_others = (k.counted only).1;
    };
  }
