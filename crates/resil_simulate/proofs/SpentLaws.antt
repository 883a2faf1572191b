-- The time of jobs and workers, with one more event.
use Rattle.std.proofs.Common.{◌≡◌, ◌≤◌, ◌<◌, ◌+◌, ◌-◌, ◌*◌, ◌^◌, ◌∷◌, [], ◌++◌, ◌∙◌, ℕ, zero, suc, Bool, true, false, cond, inl, inr, Fits, w64, List, Some, get_or, length, slice_get, slice_index, take, if◌then◌else◌, refl, sym, ap, subst, arith, length-append}
use Rattle.std.proofs.lemmas.Bool.Decides.{leb_tells}
use Rattle.std.proofs.lemmas.List.{get_or_append_left, get_or_past, take-append-le}
use Rattle.std.proofs.Math.Seq.{get_or-append_seam, take-append_seam}
use Rattle.std.proofs.lemmas.Option.{slice_get-get_or}
use Rattle.resil_rule.specs.Timed.{AreAscending}
use Rattle.resil_jdk.specs.History.{workers}
use Rattle.resil_jdk.specs.declared.event.JdkEvent.{JdkEvent}
use Rattle.resil_stats.specs.Stats.{IsJdkLoadAfter}
use Rattle.resil_stats.specs.declared.stats.Load.{Load}
use Rattle.resil_simulate.specs.Numbers.{HasTimes, area, is_finish, running_count, to_finish}
use Rattle.resil_simulate.specs.Tally.{IsSpentIn}
use Rattle.resil_simulate.specs.declared.numbers.Areas.{Areas}
use Rattle.resil_simulate.specs.declared.tally.Spent.{Spent}
use Rattle.resil_simulate.proofs.NumberLaws.{areas-small, finish-next, finish-small}
use Rattle.resil_stats.proofs.WaitLaws.{time-kept, time-last}

-- at first there is nothing
none-yet : (number : List JdkEvent → ℕ) → number [] ≡ 0 → (h : List JdkEvent) → length h ≡ 0 → number h ≡ 0
none-yet number none [] is = none
none-yet number none (e ∷ h) is = absurd (omega (arith, is))

either : {X : Type 0} (f : X → ℕ) (b : Bool) (x y : X) (m n : ℕ) → f x ≡ m → f y ≡ n → f (if b then x else y) ≡ cond b m n
either f true x y m n left right = left
either f false x y m n left right = right

module _ (h : List JdkEvent) (e : JdkEvent) (ts : List ℕ) (t : ℕ) (same : length ts ≡ length h) where
  long : length h < length (h ++ e ∷ [])
  long = let all = length-append h (e ∷ []) in omega (arith, all)

  module _ (number : List JdkEvent → ℕ) where
    -- what came before stays
    area-kept : (i : ℕ) → i < length h → area number (h ++ e ∷ []) (ts ++ t ∷ []) i ≡ area number h ts i
    area-kept zero lt = refl
    area-kept (suc i) lt =
        let before = area-kept i (omega (arith, lt)) in
        let first : take (suc i) (h ++ e ∷ []) ≡ take (suc i) h = take-append-le (suc i) h (e ∷ []) (omega (arith, lt)) in
        rw (before, first, time-kept ts t (suc i) (omega (arith, lt, same)), time-kept ts t i (omega (arith, lt, same))) refl

    finish-kept : (k : ℕ) → k ≤ length h → to_finish number (h ++ e ∷ []) (ts ++ t ∷ []) k ≡ to_finish number h ts k
    finish-kept zero le = refl
    finish-kept (suc k) le =
        let lt : k < length h = omega (arith, le) in
        let longer : k < length (h ++ e ∷ []) = omega (arith, lt, long) in
        let event : slice_get (h ++ e ∷ []) k ≡ slice_get h k = slice_get-get_or (h ++ e ∷ []) k e longer ∙ ap Some (get_or_append_left h (e ∷ []) e k lt) ∙ sym (slice_get-get_or h k e lt) in
        rw (event, area-kept k lt, finish-kept k (omega (arith, lt))) refl

    -- what the time to the next event adds
    grown-by : (n : ℕ) → length h ≡ suc n → area number (h ++ e ∷ []) (ts ++ t ∷ []) (suc n) ≡ area number h ts n + number h * (t - slice_index ts n)
    grown-by n is =
        let all : take (suc n) (h ++ e ∷ []) ≡ h = ap (λ (k : ℕ). take k (h ++ e ∷ [])) (sym is) ∙ take-append_seam h (e ∷ []) in
        rw (area-kept n (omega (arith, is)), all, time-last ts t (suc n) (omega (arith, is, same)), time-kept ts t n (omega (arith, is, same))) refl

    grown-at : number [] ≡ 0 → (n : ℕ) → length h ≡ n → area number (h ++ e ∷ []) (ts ++ t ∷ []) n ≡ area number h ts (n - 1) + number h * (t - slice_index ts (n - 1))
    grown-at none zero is = let nothing : number h ≡ 0 = none-yet number none h is in rw nothing (omega arith)
    grown-at none (suc n) is = let back : suc n - 1 ≡ n = omega arith in rw back (grown-by n is)

    area-grown : number [] ≡ 0 → area number (h ++ e ∷ []) (ts ++ t ∷ []) (length h) ≡ area number h ts (length h - 1) + number h * (t - slice_index ts (length ts - 1))
    area-grown none = rw same (grown-at none (length h) refl)

    finish-grown : to_finish number (h ++ e ∷ []) (ts ++ t ∷ []) (length (h ++ e ∷ []))
        ≡ cond (is_finish e) (area number (h ++ e ∷ []) (ts ++ t ∷ []) (length h)) (to_finish number h ts (length h))
    finish-grown =
        let all : length (h ++ e ∷ []) ≡ length h + 1 = length-append h (e ∷ []) in
        let event : is_finish (get_or (h ++ e ∷ []) (length h) e) ≡ is_finish e = ap is_finish (get_or-append_seam h e [] e) in
        rw all (finish-next (h ++ e ∷ []) (ts ++ t ∷ []) number (length h) e (is_finish e) long event
        ∙ ap (cond (is_finish e) (area number (h ++ e ∷ []) (ts ++ t ∷ []) (length h))) (finish-kept (length h) (omega arith)))

  module _ (load : Load) (after : IsJdkLoadAfter h load) (spent : Spent) (was : IsSpentIn h ts spent) where
    -- up to this event
    pub run-now : spent.so_far.run_time + load.running * (t - spent.time) ≡ area running_count (h ++ e ∷ []) (ts ++ t ∷ []) (length h)
    run-now = rw (was.so_far_run, was.time, after.running) (sym (area-grown running_count refl))

    pub workers-now : spent.so_far.worker_time + load.workers * (t - spent.time) ≡ area workers (h ++ e ∷ []) (ts ++ t ∷ []) (length h)
    workers-now = rw (was.so_far_worker, was.time, after.workers) (sym (area-grown workers refl))

    pub spent-next : (now : Spent) → now.time ≡ t → now.so_far.run_time ≡ spent.so_far.run_time + load.running * (t - spent.time)
        → now.so_far.worker_time ≡ spent.so_far.worker_time + load.workers * (t - spent.time) → now.finished ≡ (if is_finish e then now.so_far else spent.finished)
        → IsSpentIn (h ++ e ∷ []) (ts ++ t ∷ []) now
    spent-next now time run work finished =
        let events : length (h ++ e ∷ []) - 1 ≡ length h = omega (arith, length-append h (e ∷ [])) in
        let times : length (ts ++ t ∷ []) - 1 ≡ length ts = omega (arith, length-append ts (t ∷ [])) in
        let run_now = run ∙ run-now in
        let work_now = work ∙ workers-now in
        record {
          time = rw times (time ∙ sym (time-last ts t (length ts) refl));
          so_far_run = rw events run_now;
          so_far_worker = rw events work_now;
          finished_run = ap (λ (areas : Areas). areas.run_time) finished ∙ either (λ (areas : Areas). areas.run_time) (is_finish e) now.so_far spent.finished _ _ run_now was.finished_run ∙ sym (finish-grown running_count);
          finished_worker = ap (λ (areas : Areas). areas.worker_time) finished ∙ either (λ (areas : Areas). areas.worker_time) (is_finish e) now.so_far spent.finished _ _ work_now was.finished_worker ∙ sym (finish-grown workers);
        }

-- ---- How large they get.

-- no time is later than the last one
up-to : (times : List ℕ) → AreAscending times → (more k : ℕ) → k + more < length times → slice_index times k ≤ slice_index times (k + more)
up-to times ascending zero k lt = let same : k + 0 ≡ k = omega arith in rw same (omega arith)
up-to times ascending (suc more) k lt =
    let before = up-to times ascending more k (omega (arith, lt)) in
    let next = ascending (k + more) (omega (arith, lt)) in
    let one : k + suc more ≡ k + more + 1 = omega arith in rw one (omega (arith, before, next))

fits-all : (times : List ℕ) (last : ℕ) → AreAscending times → last ≡ slice_index times (length times - 1) → last < 2 ^ 64 → (k : ℕ) → Fits w64 (slice_index times k)
fits-all times last ascending is fits k = elim (leb_tells (length times) k) [
  | inl past ↦ let none : slice_index times k ≡ 0 = get_or_past times k 0 past.1 in omega (arith, none)
  | inr lt ↦
      let early = up-to times ascending (length times - 1 - k) k (omega (arith, lt)) in
      let place : k + (length times - 1 - k) ≡ length times - 1 = omega (arith, lt) in
      let le : slice_index times k ≤ slice_index times (length times - 1) = subst (λ (n : ℕ). slice_index times k ≤ slice_index times n) place early in
      omega (arith, le, is, fits)
]

module _ (events : List JdkEvent) (times : List ℕ) (has : HasTimes events times) (last : ℕ) (is : last ≡ slice_index times (length times - 1)) (fits : last < 2 ^ 64) where
  -- no more jobs ran than workers existed, which is a small number
  pub spent-small : (i : ℕ) → i < length events → (area running_count events times i ≤ area workers events times i) × (area workers events times i < 2 ^ 93)
  spent-small i lt = areas-small events times has (fits-all times last has.ascending is fits) i lt

  pub finished-small : (to_finish running_count events times (length events) ≤ to_finish workers events times (length events)) × (to_finish workers events times (length events) < 2 ^ 93)
  finished-small = finish-small events times has (fits-all times last has.ascending is fits) (length events) (omega arith)
