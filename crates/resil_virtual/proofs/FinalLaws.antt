-- A pool before all else, and one in which nothing is due any more.
use Rattle.resil_virtual.proofs.Words.{inl, inr, ◌⊎◌, ◌≡◌, ◌≤◌, ◌<◌, ◌+◌, ◌*◌, ◌^◌, ◌==◌, ◌∷◌, [], ◌++◌, ◌∙◌, ℕ, zero, suc, Bool, true, false, not, if◌then◌else◌, List, Option, Some, None, filter, is_some, length, map, max, option_map, option_to_list, slice_get, refl, sym, ap, subst, arith, append-nil, cons_option, IfSome, option_map_or, common_steps, length-map, nil_from_length, take_all, Id, same-length, kept_size, running, waiting, workers, JdkEvent, TimeOut, events_in, TimedJdkEvent, IsLoad, end_at, ends_due, ends_of, finishes, front, has_spare, idle_after, just_finished, looks_due, looks_of, next_due, own_takes, submission, submissions_of, take_at, IsSimulated, history_after, opening, Arrival, Idle, VirtualPool}
use Rattle.resil_jdk.specs.Limits.{AreJdkLimits}
use Rattle.resil_virtual.specs.Pool.{AreParts, AreSound, ids_to_come, job_of, kept, left, own, staying, submitted_end, submitted_run}
use Rattle.resil_virtual.proofs.FirstLaws.{none-due}
use Rattle.resil_virtual.proofs.HistoryLaws.{all-done}
use Rattle.resil_virtual.proofs.CauseLaws.{at_of, due-with, next_job, others}

-- ---- Nothing is due.

left-none : {X : Type 0} (xs ys : List X) → xs ++ ys ≡ [] → xs ≡ []
left-none [] ys none = refl
left-none (x ∷ xs) ys none = absurd (cc none)

right-none : {X : Type 0} (xs ys : List X) → xs ++ ys ≡ [] → ys ≡ []
right-none [] ys none = none
right-none (x ∷ xs) ys none = absurd (cc none)

map-none : {X Y : Type 0} (f : X → Y) (xs : List X) → map f xs ≡ [] → xs ≡ []
map-none f [] none = refl
map-none f (x ∷ xs) none = absurd (cc none)

-- those that never end
all-stay : (idle : List Idle) → ends_of idle ≡ [] → staying idle ≡ length idle
all-stay [] none = refl
all-stay (w ∷ idle) none = go w.end (all-stay idle) none
  where
    go : (o : Option ℕ) → (ends_of idle ≡ [] → staying idle ≡ length idle) → cons_option o (ends_of idle) ≡ [] → length (if not (is_some o) then w ∷ filter (λ v. not (is_some v.end)) idle else filter (λ v. not (is_some v.end)) idle) ≡ suc (length idle)
    go None rest none = ap suc (rest none)
    go (Some end) rest none = absurd (cc none)

none-left : (all : List Arrival) (i : ℕ) → slice_get all i ≡ None → length all ≤ i
none-left [] i past = omega arith
none-left (a ∷ all) zero past = absurd (cc past)
none-left (a ∷ all) (suc i) past = let rest = none-left all i past in omega (arith, rest)

module _ (pool : VirtualPool) (arrivals : List Arrival) (next : ℕ) (h : List TimedJdkEvent) (was : AreSound pool arrivals next h) (none : next_due pool arrivals h ≡ None) where
  abbrev ev : List JdkEvent
  ev = events_in h

  abbrev idle : List Idle
  idle = idle_after pool h

  all-none : own_takes h ++ others pool arrivals next h was ≡ []
  all-none = none-due at_of (own_takes h ++ others pool arrivals next h was) (sym (due-with pool arrivals next h was) ∙ none)

  no-own : own_takes h ≡ []
  no-own = left-none (own_takes h) (others pool arrivals next h was) all-none

  rest-none : finishes arrivals h ++ (looks_due h idle ++ (next_job pool arrivals next h was ++ ends_due pool h idle)) ≡ []
  rest-none = right-none (own_takes h) (others pool arrivals next h was) all-none

  more-none : looks_due h idle ++ (next_job pool arrivals next h was ++ ends_due pool h idle) ≡ []
  more-none = right-none (finishes arrivals h) (looks_due h idle ++ (next_job pool arrivals next h was ++ ends_due pool h idle)) rest-none

  last-none : next_job pool arrivals next h was ++ ends_due pool h idle ≡ []
  last-none = right-none (looks_due h idle) (next_job pool arrivals next h was ++ ends_due pool h idle) more-none

  no-runs : length (running ev) ≡ 0
  no-runs =
      sym (same-length (ids_to_come arrivals h) (running ev) was.jobs) ∙ length-map (finishes arrivals h) (λ (f : TimedJdkEvent). job_of f.event)
      ∙ ap length (left-none (finishes arrivals h) (looks_due h idle ++ (next_job pool arrivals next h was ++ ends_due pool h idle)) rest-none)

  no-job : slice_get arrivals next ≡ None
  no-job = go (slice_get arrivals next) (left-none (next_job pool arrivals next h was) (ends_due pool h idle) last-none)
    where
      go : (o : Option Arrival) → option_to_list (option_map (submission pool.limits ev) o) ≡ [] → o ≡ None
      go None none = refl
      go (Some a) none = absurd (cc none)

  -- nobody would come to a job that waits
  no-waiting : waiting ev ≡ []
  no-waiting = go (waiting ev) refl was.staffed (left-none (looks_due h idle) (next_job pool arrivals next h was ++ ends_due pool h idle) more-none)
    where
      go : (ids : List Id) → waiting ev ≡ ids → (waiting ev ≡ []) ⊎ (1 ≤ length (running ev) + own ev + length (looks_of idle)) → looks_due h idle ≡ [] → ids ≡ []
      go [] waits staffed looks = refl
      go (id ∷ ids) waits (inl empty) looks = sym waits ∙ empty
      go (id ∷ ids) waits (inr some) looks =
          let first : front ev ≡ Some id = ap (λ (xs : List Id). slice_get xs 0) waits in
          let seen = ap length (map-none (take_at id) (looks_of idle) (subst (λ (o : Option Id). option_map_or (λ x. map (take_at x) (looks_of idle)) o [] ≡ []) first looks)) in
          let nobody = no-runs in let free = no-own-take (just_finished ev) refl id first in absurd (omega (arith, some, seen, nobody, free))
        where
          no-own-take : (b : Bool) → just_finished ev ≡ b → (id : Id) → front ev ≡ Some id → own ev ≡ 0
          no-own-take false just id first = rw just refl
          no-own-take true just id first = absurd (cc (rw (just, first) at no-own))

  own-zero : own ev ≡ 0
  own-zero = ap (λ (ids : List Id). if just_finished ev then (if length ids == 0 then 0 else 1) else 0) no-waiting ∙ same (just_finished ev)
    where
      same : (b : Bool) → ◌≡◌ {A = ℕ} (if b then 0 else 0) 0
      same true = refl
      same false = refl

  kept-is : kept_size pool.limits ev ≡ kept pool
  kept-is = rw (was.opened.time_out, was.opened.core) refl

  few : workers ev ≤ kept_size pool.limits ev
  few = go (has_spare pool ev) refl (right-none (next_job pool arrivals next h was) (ends_due pool h idle) last-none)
    where
      go : (b : Bool) → has_spare pool ev ≡ b → ends_due pool h idle ≡ [] → workers ev ≤ kept_size pool.limits ev
      go false spare ends = grind (arith, common_steps, spare)
      go true spare ends =
          let first : front ev ≡ None = ap (λ (xs : List Id). slice_get xs 0) no-waiting in
          let all = all-stay idle (map-none end_at (ends_of idle) (rw (first, spare) at ends)) in
          let crew = was.crew in let nobody = no-runs in let zero_own = own-zero in let stay = was.staying in let size = kept-is in omega (arith, all, crew, nobody, zero_own, stay, size)

  pub simulated : IsSimulated pool arrivals h
  simulated = record {
    rest = was.rest;
    opens = was.opens;
    goes_on = all-done pool arrivals (opening pool) was.rest was.events (subst (λ (k : List TimedJdkEvent). next_due pool arrivals k ≡ None) was.opens none);
    legal = was.legal;
    submissions = was.submissions ∙ ap submissions_of (take_all next arrivals (none-left arrivals next no-job));
    ascending = was.ascending;
    none_waits = no-waiting;
    none_runs = nil_from_length (running ev) no-runs;
    few = few;
  }

-- ---- What has happened once the next event has.

pub told : (p q : VirtualPool) (a b : List Arrival) (m n : ℕ) (t : TimedJdkEvent) → q ≡ p → b ≡ a → n ≡ m → next_due p a (history_after p a m) ≡ Some t → history_after q b (n + 1) ≡ history_after p a m ++ t ∷ []
told p q a b m n t plan load steps is =
    let one : n + 1 ≡ suc m = omega (arith, steps) in
    rw (plan, load, one) (ap (λ (o : Option TimedJdkEvent). history_after p a m ++ option_to_list o) is)

-- ---- The opening.

pub opened-parts : (pool : VirtualPool) (arrivals : List Arrival) → IsLoad pool.idle_for pool.wakes arrivals → AreJdkLimits pool.limits → pool.idle_for < 2 ^ 64 → AreParts pool arrivals 0 0 0 false 0 [] [] [] (opening pool)
opened-parts pool arrivals load sizes fits = nothing pool.time_out refl (opening pool) refl refl
  where
    low : (a : Option Arrival) → IfSome a (λ a. 0 ≤ max a.at (submitted_end arrivals 0) + submitted_run pool arrivals 0)
    low None = tt
    low (Some a) = omega arith

    any : (a : Option Arrival) → IfSome a (λ a. 0 ≤ a.at)
    any None = tt
    any (Some a) = omega arith

    nothing : (b : Bool) → pool.time_out ≡ b → (h : List TimedJdkEvent) → opening pool ≡ h → h ≡ (if b then record { event = TimeOut true; at = 0 } ∷ [] else []) → AreParts pool arrivals 0 0 0 false 0 [] [] [] h
    nothing true is h opens are = rw are (record {
      sound = record {
        load = load;
        sizes = sizes;
        rest = [];
        opens = sym are ∙ sym opens ∙ sym (append-nil (opening pool));
        events = tt;
        legal = (tt, tt);
        opened = record { unclosed = refl; unstopped = refl; core = refl; max = refl; time_out = sym is };
        submissions = refl;
        ascending = λ k within. absurd (omega (arith, within));
        arrival = any (slice_get arrivals 0);
        jobs = λ x. refl;
        crew = refl;
        staying = omega arith;
        staffed = inl refl;
        in_time = record { bound = 0; fits = omega (arith, fits); before = low (slice_get arrivals 0); spent = omega arith; ends = λ k d within. absurd (omega (arith, within)); jobs = λ k d within. absurd (omega (arith, within)); idle = λ k d within. absurd (omega (arith, within)); now = inl refl };
      };
      workers_are = refl;
      now_is = refl;
      own_is = refl;
      queue_is = refl;
      runs_are = λ k d within. absurd (omega (arith, within));
      jobs_are = record { begun = []; same = λ of_job. refl; ordered = omega arith; finishes_are = refl };
      idle_are = refl;
    })
    nothing false is h opens are = rw are (record {
      sound = record {
        load = load;
        sizes = sizes;
        rest = [];
        opens = sym are ∙ sym opens ∙ sym (append-nil (opening pool));
        events = tt;
        legal = tt;
        opened = record { unclosed = refl; unstopped = refl; core = refl; max = refl; time_out = sym is };
        submissions = refl;
        ascending = λ k within. absurd (omega (arith, within));
        arrival = any (slice_get arrivals 0);
        jobs = λ x. refl;
        crew = refl;
        staying = omega arith;
        staffed = inl refl;
        in_time = record { bound = 0; fits = omega (arith, fits); before = low (slice_get arrivals 0); spent = omega arith; ends = λ k d within. absurd (omega (arith, within)); jobs = λ k d within. absurd (omega (arith, within)); idle = λ k d within. absurd (omega (arith, within)); now = inl refl };
      };
      workers_are = refl;
      now_is = refl;
      own_is = refl;
      queue_is = refl;
      runs_are = λ k d within. absurd (omega (arith, within));
      jobs_are = record { begun = []; same = λ of_job. refl; ordered = omega arith; finishes_are = refl };
      idle_are = refl;
    })

pub opened-left : (pool : VirtualPool) (arrivals : List Arrival) → left pool arrivals 0 (opening pool) ≤ 5 * length arrivals
opened-left pool arrivals = go pool.time_out refl
  where
    go : (b : Bool) → pool.time_out ≡ b → left pool arrivals 0 (opening pool) ≤ 5 * length arrivals
    go true is = rw is (omega arith)
    go false is = rw is (omega arith)
