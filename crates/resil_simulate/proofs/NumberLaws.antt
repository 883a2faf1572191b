-- Numbers over the time of a history, event by event, and how large they get.
use Rattle.resil_simulate.proofs.Words.{◌≡◌, ◌≤◌, ◌<◌, ◌+◌, ◌-◌, ◌*◌, ◌^◌, [], ℕ, zero, suc, Bool, false, cond, inl, inr, Fits, w64, List, get_or, length, slice_get, slice_index, take, refl, sym, add-one, arith, mul-le-mul_right, option_map_or, cases_Bool, slice_get-get_or, AreAscending, Id, HasTimes, area, is_finish, running_count, to_finish}
use Rattle.resil_jdk.specs.Admission.{IsLegal}
use Rattle.resil_jdk.specs.History.{workers}
use Rattle.resil_jdk.specs.declared.event.JdkEvent.{JdkEvent}
use Rattle.resil_jdk.specs.declared.event.JdkEvent.TheVariants.{Finish}
use Rattle.resil_jdk.proofs.WorkerLaws.{running-within_workers, workers-within_opening}
use Rattle.resil_stats.specs.Stats.{IsJdkLoadAfter}
use Rattle.resil_stats.specs.declared.stats.Load.{Load}
use Rattle.resil_stats.proofs.LoadLaws.{legal-take}

-- ---- A number over time.

module _ (events : List JdkEvent) (times : List ℕ) (number : List JdkEvent → ℕ) where
  -- up to the next event
  area-next : (i : ℕ)
      → area number events times i ≡ area number events times (i - 1) + number (take i events) * (slice_index times i - slice_index times (i - 1))
  area-next zero = let none : slice_index times 0 - slice_index times 0 ≡ 0 = omega arith in rw none (grind arith)
  area-next (suc i) = let before : suc i - 1 ≡ i = omega arith in rw before refl

  -- a number that is at most 2 ^ 29 is at most 2 ^ 29 times the time
  area-small : ((k : ℕ) → number (take k events) ≤ 536870911) → AreAscending times → (i : ℕ) → i < length times
      → area number events times i ≤ 536870911 * slice_index times i
  area-small few ascending zero lt = omega arith
  area-small few ascending (suc i) lt =
      let before = area-small few ascending i (omega (arith, lt)) in
      let later = rw add-one at (ascending i (omega (arith, lt))) in
      let more = mul-le-mul_right (slice_index times (suc i) - slice_index times i) (few (suc i)) in
      omega (arith, before, later, more)

  -- up to the last finish, with one more event
  pub finish-next : (i : ℕ) (d : JdkEvent) (b : Bool) → i < length events → is_finish (get_or events i d) ≡ b
      → to_finish number events times (i + 1) ≡ cond b (area number events times i) (to_finish number events times i)
  finish-next i d b lt is = rw (add-one, slice_get-get_or events i d lt, is) refl

pub no_finish : (e : JdkEvent) → ((id : Id) → e ≡ Finish id → ⊥) → is_finish e ≡ false
no_finish (Finish id) other = absurd (other id refl)
no_finish e other = refl

-- a greater number comes to more
area-within : (events : List JdkEvent) (times : List ℕ) (less more : List JdkEvent → ℕ) → ((k : ℕ) → less (take k events) ≤ more (take k events))
    → (i : ℕ) → area less events times i ≤ area more events times i
area-within events times less more within zero = omega arith
area-within events times less more within (suc i) =
    let before = area-within events times less more within i in
    let next = mul-le-mul_right (slice_index times (suc i) - slice_index times i) (within (suc i)) in
    omega (arith, before, next)

-- A legal history.

module _ (events : List JdkEvent) (times : List ℕ) (has : HasTimes events times) (fits : (k : ℕ) → Fits w64 (slice_index times k)) where
  before : (k : ℕ) → IsLegal has.legal.0 (take k events)
  before k = legal-take has.legal.0 [] [] events k has.legal.2

  workers-few : (k : ℕ) → workers (take k events) ≤ 536870911
  workers-few k = let few = workers-within_opening has.legal.0 (take k events) has.legal.1 (before k) in omega (arith, few, has.legal.1.max)

  -- no more ran than workers existed, which is a small number
  pub areas-small : (i : ℕ) → i < length events → (area running_count events times i ≤ area workers events times i) × (area workers events times i < 2 ^ 93)
  areas-small i lt =
      let small = area-small events times workers workers-few has.ascending i (omega (arith, lt, has.same)) in
      let fit = fits i in
      (area-within events times running_count workers (λ k. running-within_workers has.legal.0 (take k events) (before k)) i, omega (arith, small, fit))

  -- what a load adds, up to the next event
  pub record AreNext (i gap : ℕ) (load : Load) : Type 0 where
    pub run_time : area running_count events times (i - 1) + load.running * gap ≡ area running_count events times i
    pub worker_time : area workers events times (i - 1) + load.workers * gap ≡ area workers events times i
    pub small : (area running_count events times i ≤ area workers events times i) × (area workers events times i < 2 ^ 93)

  pub areas-next : (i gap : ℕ) (load : Load) → i < length events → IsJdkLoadAfter (take i events) load → gap ≡ slice_index times i - slice_index times (i - 1) → AreNext i gap load
  areas-next i gap load lt after is = record {
    run_time = rw (after.running, is) (sym (area-next events times running_count i));
    worker_time = rw (after.workers, is) (sym (area-next events times workers i));
    small = areas-small i lt;
  }

  -- up to the last finish
  pub finish-small : (k : ℕ) → k ≤ length events
      → (to_finish running_count events times k ≤ to_finish workers events times k) × (to_finish workers events times k < 2 ^ 93)
  finish-small zero le = (omega arith, omega arith)
  finish-small (suc k) le = elim (cases_Bool (option_map_or is_finish (slice_get events k) false)) [
    | inl is ↦ rw is (areas-small k le)
    | inr other ↦ rw other (finish-small k (omega (arith, le)))
  ]
