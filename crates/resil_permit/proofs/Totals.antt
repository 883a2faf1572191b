-- The word and what all passes hold and have retired add up to max.
use Rattle.std.proofs.Common.{◌≡◌, ℕ, zero, suc, ◌+◌, ◌-◌, ◌<◌, ◌≤◌, Bool, List, [], ◌∷◌, length, map, set, get_or, refl, sym, ap, ◌∙◌, arith, get_or-set_same, get_or-set_other}
use Rattle.std.specs.Prelude.{count_by, sum, sum_by}
use Rattle.std.proofs.lemmas.List.{get_or_past}
use Rattle.std.proofs.lemmas.List.Sums.{sum_by-cons, sum-map, sum_by-set}
use mathlib.Core.Option.{some}
use lib.ListN.{get_elem?}
use Rattle.resil_permit.specs.declared.event.PermitEvent.{PermitEvent}
use Rattle.resil_permit.specs.declared.protocol.Phase.{Phase}
use Rattle.resil_permit.specs.declared.protocol.Phase.TheVariants.{Idle, Loaded, Joining, Splitting, Joined}
use Rattle.resil_permit.specs.declared.protocol.View.{View}
use Rattle.resil_permit.specs.History.{events_of_seat, taken_count, retired_count, raised_count, let_go_count, copies_of, holders}
use Rattle.resil_permit.specs.Rule.{IsLive, FitsPassPhase}
use Rattle.resil_permit.specs.Conservation.{held_in, retired_in, AllAddUp}
use Rattle.resil_permit.proofs.ProtocolRules.{counts_of_live}
use Rattle.resil_permit.proofs.Histories.{copies_of-cons}
use Rattle.resil_permit.proofs.Tallies.{IsTallied, tallied}

none_left : (numbers : List ℕ) → ((i : ℕ) → get_or numbers i 0 ≡ 0) → sum numbers ≡ 0
none_left [] none = refl
none_left (n ∷ ns) none = let here : n ≡ 0 = none 0 in let rest = none_left ns (λ i. none (suc i)) in sum_by-cons (λ x. x) n ns ∙ omega arith

-- where each number is how many copies of its index a multiset has, they add up to its items
summed : (numbers multiset : List ℕ) → ((i : ℕ) → get_or numbers i 0 ≡ copies_of i multiset) → sum numbers ≡ length multiset
summed numbers [] each = none_left numbers each
summed numbers (x ∷ xs) each =
    let own : get_or numbers x 0 ≡ 1 + copies_of x xs = grind (arith, each x, copies_of-cons x x xs) in
    let inside : x < length numbers = grind (arith, get_or_past) in
    let rest = summed (set numbers x (copies_of x xs)) xs (λ i.
    grind (arith, each i, copies_of-cons i x xs, get_or-set_same numbers x (copies_of x xs) 0 inside, get_or-set_other numbers x i (copies_of x xs) 0)) in
    let all = sum_by-set (λ n. n) numbers x (copies_of x xs) 0 inside in omega arith

-- what each has is read by its index
by_place : (part : View → ℕ) (views : List View) (f : ℕ → ℕ) → ((i : ℕ) (v : View) → get_elem? views i ≡ some v → part v ≡ f i)
    → ((i : ℕ) → length views ≤ i → 0 ≡ f i) → (i : ℕ) → get_or (map part views) i 0 ≡ f i
by_place part [] f each others i = others i (omega arith)
by_place part (v ∷ vs) f each others zero = each 0 v refl
by_place part (v ∷ vs) f each others (suc i) = by_place part vs (λ j. f (suc j)) (λ j u e. each (suc j) u e) (λ j le. others (suc j) (omega arith)) i

-- what a pass holds, and what it has retired, are its copies among the holders and those who retired
abbrev HasCopies : List PermitEvent → List ℕ → ℕ → ℕ → ℕ → Type 0
HasCopies log keeping by held kept = (held ≡ copies_of by (holders log)) × (kept ≡ copies_of by keeping)

module _ (max : ℕ) (log : List PermitEvent) (keeping : List ℕ) (all : IsTallied max log (holders log) keeping) (by : ℕ) where
  live_has : (v : View) → IsLive max log by v
      → HasCopies log keeping by (taken_count v.number v.seen - let_go_count v.number v.seen) (retired_count v.number v.seen - raised_count v.number v.seen)
  live_has v live = let mine = counts_of_live max by log v live in omega arith

  none_has : taken_count by log ≡ let_go_count by log → retired_count by log ≡ raised_count by log → HasCopies log keeping by 0 0
  none_has even clear = omega arith

  -- a seat without events holds nothing and has retired nothing
  no_events_has : events_of_seat by log ≡ [] → HasCopies log keeping by 0 0
  no_events_has none =
      let no : (kind : PermitEvent → Bool) → count_by kind (events_of_seat by log) ≡ 0 = λ kind. ap (count_by kind) none in
      none_has (omega (arith, no)) (omega (arith, no))

  pass_has : (v : View) (p : Phase) → FitsPassPhase max log by v p → HasCopies log keeping by (held_in v p) (retired_in v p)
  pass_has v Idle k = live_has v k
  pass_has v (Loaded n) k = live_has v k.live
  pass_has v (Joining number mine other) k = live_has v k.live
  pass_has v Splitting k = no_events_has k.no_events
  pass_has v Joined k = none_has k.even k.none_retired

-- what all passes have of a multiset of seats is the multiset, if it has no other seat
summed_up : (views : List View) (part : View → ℕ) (multiset : List ℕ) → ((i : ℕ) (v : View) → get_elem? views i ≡ some v → part v ≡ copies_of i multiset)
    → ((i : ℕ) → length views ≤ i → 0 ≡ copies_of i multiset) → sum_by part views ≡ length multiset
summed_up views part multiset each others =
    sym (sum-map part views) ∙ summed (map part views) multiset (by_place part views (λ i. copies_of i multiset) each others)

-- the free permits and those that passes hold or have retired, dropped ones too, are all there are
pub adds_up : AllAddUp
adds_up max words views k =
    let (keeping, all) = tallied max k.log k.shared.legal in
    let has = λ (i : ℕ) (v : View) (e : get_elem? views i ≡ some v). pass_has max k.log keeping all i v v.phase (k.shared.each i v e) in
    let others = λ (i : ℕ) (le : length views ≤ i). no_events_has max k.log keeping all i (k.shared.no_others i le) in
    let held = summed_up views (λ v. held_in v v.phase) (holders k.log) (λ i v e. (has i v e).0) (λ i le. (others i le).0) in
    let kept = summed_up views (λ v. retired_in v v.phase) keeping (λ i v e. (has i v e).1) (λ i le. (others i le).1) in omega arith
