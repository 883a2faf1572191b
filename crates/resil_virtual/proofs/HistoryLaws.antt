-- A history that goes on by an event with its time.
use Rattle.resil_virtual.proofs.Words.{◌≡◌, ◌≤◌, ◌<◌, ◌+◌, ◌==◌, ◌&&◌, ◌∷◌, [], ◌++◌, ◌∙◌, ℕ, zero, suc, Bool, true, false, not, cond, List, Option, Some, None, filter, length, map, slice_get, slice_index, take, refl, sym, ap, subst, arith, append_assoc, append-nil, cons_option, filter_map, option_map_or, cases_Bool, map-append, filter-append, filter_map-append, is_among, is_same_id, last_size, Id, finished, finished_id, submissions, JdkEvent, Submit, among-last, of_caller, AreAscending, events_in, times_in, TimedJdkEvent, Arrival, id_of, RunningJob, begun_id, finish_from, finish_of, finishes, idle_after, idle_from, idle_next, is_to_come, last_at, next_due, submissions_at, submissions_of, submitted_at, GoesOn, OneHistory, opening, Idle, VirtualPool, AreDue, finish_at}

-- a list that is filtered out of events, with one more event
pub filtered-same : {A : Type 0} (f : JdkEvent → Option A) (h : List JdkEvent) (e : JdkEvent) → f e ≡ None → filter_map f (h ++ e ∷ []) ≡ filter_map f h
filtered-same f h e none = filter_map-append f h (e ∷ []) ∙ ap (λ o. filter_map f h ++ cons_option o []) none ∙ append-nil _

pub filtered-more : {A : Type 0} (f : JdkEvent → Option A) (h : List JdkEvent) (e : JdkEvent) (id : A) → f e ≡ Some id → filter_map f (h ++ e ∷ []) ≡ filter_map f h ++ id ∷ []
filtered-more f h e id some = filter_map-append f h (e ∷ []) ∙ ap (λ o. filter_map f h ++ cons_option o []) some

-- ---- The last event.

last-pushed : (other : ℕ) (times : List ℕ) (at : ℕ) → last_size other (times ++ at ∷ []) ≡ at
last-pushed other [] at = refl
last-pushed other (t ∷ times) at = last-pushed t times at

module _ (h : List TimedJdkEvent) (t : TimedJdkEvent) where
  times-are : times_in (h ++ t ∷ []) ≡ times_in h ++ t.at ∷ []
  times-are = map-append (λ timed. timed.at) h (t ∷ [])

  pub last-is : last_at (h ++ t ∷ []) ≡ t.at
  last-is = ap (last_size 0) times-are ∙ last-pushed 0 (times_in h) t.at

  pub events-are : events_in (h ++ t ∷ []) ≡ events_in h ++ t.event ∷ []
  events-are = map-append (λ timed. timed.event) h (t ∷ [])

  -- an event that is no submission adds none
  pub no-submission : submitted_at t ≡ None → submissions_at (h ++ t ∷ []) ≡ submissions_at h
  no-submission none = filter_map-append submitted_at h (t ∷ []) ∙ rw none (append-nil (submissions_at h))

  pub one-submission : (s : Id × ℕ) → submitted_at t ≡ Some s → submissions_at (h ++ t ∷ []) ≡ submissions_at h ++ s ∷ []
  one-submission s is = filter_map-append submitted_at h (t ∷ []) ∙ rw is refl

-- one time before those that ascend, and one after them
pub ascending-more : (t u : ℕ) (times : List ℕ) → t ≤ u → AreAscending (u ∷ times) → AreAscending (t ∷ u ∷ times)
ascending-more t u times le rest = go
  where
    go : (k : ℕ) → k + 1 < length (t ∷ u ∷ times) → slice_index (t ∷ u ∷ times) k ≤ slice_index (t ∷ u ∷ times) (k + 1)
    go zero within = le
    go (suc k) within =
        let same : suc (k + 1) ≡ suc k + 1 = omega arith in
        subst (λ n. slice_index (u ∷ times) k ≤ slice_index (t ∷ u ∷ times) n) same (rest k (omega (arith, within)))

ascending-rest : (t : ℕ) (times : List ℕ) → AreAscending (t ∷ times) → AreAscending times
ascending-rest t times all k within =
    let same : suc k + 1 ≡ suc (k + 1) = omega arith in
    subst (λ n. slice_index times k ≤ slice_index (t ∷ times) n) same (all (suc k) (omega (arith, within)))

ascending-last : (other : ℕ) (times : List ℕ) (at : ℕ) → last_size other times ≤ at → AreAscending times → AreAscending (times ++ at ∷ [])
ascending-last other [] at le all = λ k within. absurd (omega (arith, within))
ascending-last other (t ∷ []) at le all = ascending-more t at [] le (λ k within. absurd (omega (arith, within)))
ascending-last other (t ∷ u ∷ times) at le all =
    let two : t ≤ u = all 0 (omega arith) in
    ascending-more t u (times ++ at ∷ []) two (ascending-last t (u ∷ times) at le (ascending-rest t (u ∷ times) all))

pub ascending-pushed : (h : List TimedJdkEvent) (t : TimedJdkEvent) → last_at h ≤ t.at → AreAscending (times_in h) → AreAscending (times_in (h ++ t ∷ []))
ascending-pushed h t le all = subst AreAscending (sym (times-are h t)) (ascending-last 0 (times_in h) t.at le all)

-- ---- The jobs that run.

filter-both : {X : Type 0} (p q r : X → Bool) → ((x : X) → p x ≡ (q x && r x)) → (xs : List X) → filter p xs ≡ filter r (filter q xs)
filter-both p q r is [] = refl
filter-both p q r is (x ∷ xs) = let rest = filter-both p q r is xs in let here = is x in grind (arith, rest, here, cases_Bool (p x), cases_Bool (q x), cases_Bool (r x))

-- whether it isn't the finish of a job
abbrev pub is_of_other : Id → TimedJdkEvent → Bool
is_of_other id finish = not (option_map_or (λ x. is_same_id id x) (finished_id finish.event) false)

module _ (arrivals : List Arrival) (h : List TimedJdkEvent) (t : TimedJdkEvent) where
  abbrev done : List Id
  done = finished (events_in h)

  same-done : finished_id t.event ≡ None → finished (events_in (h ++ t ∷ [])) ≡ done
  same-done none = ap finished (events-are h t) ∙ filtered-same finished_id (events_in h) t.event none

  more-done : (id : Id) → finished_id t.event ≡ Some id → finished (events_in (h ++ t ∷ [])) ≡ done ++ id ∷ []
  more-done id is = ap finished (events-are h t) ∙ filtered-more finished_id (events_in h) t.event id is

  pub finishes-begun : (id : Id) → begun_id t.event ≡ Some id → finished_id t.event ≡ None → is_among id done ≡ false → finishes arrivals (h ++ t ∷ []) ≡ finishes arrivals h ++ finish_from arrivals t.at id ∷ []
  finishes-begun id is none fresh =
      let one : filter_map (finish_of arrivals) (t ∷ []) ≡ finish_from arrivals t.at id ∷ [] = rw is refl in
      let passes : filter (is_to_come done) (finish_from arrivals t.at id ∷ []) ≡ finish_from arrivals t.at id ∷ [] = rw fresh refl in
      ap (λ (ids : List Id). filter (is_to_come ids) (filter_map (finish_of arrivals) (h ++ t ∷ []))) (same-done none)
      ∙ ap (filter (is_to_come done)) (filter_map-append (finish_of arrivals) h (t ∷ []) ∙ ap (λ (more : List TimedJdkEvent). filter_map (finish_of arrivals) h ++ more) one)
      ∙ filter-append (is_to_come done) (filter_map (finish_of arrivals) h) (finish_from arrivals t.at id ∷ [])
      ∙ ap (λ (more : List TimedJdkEvent). finishes arrivals h ++ more) passes

  begins-none : begun_id t.event ≡ None → filter_map (finish_of arrivals) (h ++ t ∷ []) ≡ filter_map (finish_of arrivals) h
  begins-none none =
      let no : filter_map (finish_of arrivals) (t ∷ []) ≡ [] = rw none refl in
      filter_map-append (finish_of arrivals) h (t ∷ []) ∙ ap (λ (more : List TimedJdkEvent). filter_map (finish_of arrivals) h ++ more) no ∙ append-nil _

  pub finishes-same : begun_id t.event ≡ None → finished_id t.event ≡ None → finishes arrivals (h ++ t ∷ []) ≡ finishes arrivals h
  finishes-same none same =
      ap (λ (ids : List Id). filter (is_to_come ids) (filter_map (finish_of arrivals) (h ++ t ∷ []))) (same-done same) ∙ ap (filter (is_to_come done)) (begins-none none)

  still : (id : Id) (f : TimedJdkEvent) → is_to_come (done ++ id ∷ []) f ≡ (is_to_come done f && is_of_other id f)
  still id f = go (finished_id f.event) refl
    where
      go : (o : Option Id) → finished_id f.event ≡ o → is_to_come (done ++ id ∷ []) f ≡ (is_to_come done f && is_of_other id f)
      go None is = rw is refl
      go (Some x) is = rw (is, among-last x id done) (grind (arith, cases_Bool (is_among x done), cases_Bool (is_same_id id x)))

  pub finishes-done : (id : Id) → begun_id t.event ≡ None → finished_id t.event ≡ Some id → finishes arrivals (h ++ t ∷ []) ≡ filter (is_of_other id) (finishes arrivals h)
  finishes-done id none is =
      ap (λ (ids : List Id). filter (is_to_come ids) (filter_map (finish_of arrivals) (h ++ t ∷ []))) (more-done id is)
      ∙ ap (filter (is_to_come (done ++ id ∷ []))) (begins-none none)
      ∙ filter-both (is_to_come (done ++ id ∷ [])) (is_to_come done) (is_of_other id) (still id) (filter_map (finish_of arrivals) h)

-- the jobs without the one that is finished
filter-mapped : {X Y : Type 0} (f : X → Y) (p : Y → Bool) (xs : List X) → filter p (map f xs) ≡ map f (filter (λ x. p (f x)) xs)
filter-mapped f p [] = refl
filter-mapped f p (x ∷ xs) = let rest = filter-mapped f p xs in grind (arith, rest, cases_Bool (p (f x)))

pub others-are : (id : Id) (jobs : List RunningJob) → filter (is_of_other id) (map finish_at jobs) ≡ map finish_at (filter (λ job. not (is_same_id id (id_of job))) jobs)
others-are id jobs = filter-mapped finish_at (is_of_other id) jobs

-- ---- What was due.

module _ (pool : VirtualPool) where
  from-pushed : (before : List TimedJdkEvent) (idle : List Idle) (h : List TimedJdkEvent) (t : TimedJdkEvent) → idle_from pool before idle (h ++ t ∷ []) ≡ idle_next pool (before ++ h) (idle_from pool before idle h) t
  from-pushed before idle [] t = ap (λ (b : List TimedJdkEvent). idle_next pool b idle t) (sym (append-nil before))
  from-pushed before idle (e ∷ h) t = from-pushed (before ++ e ∷ []) (idle_next pool before idle e) h t
      ∙ ap (λ (b : List TimedJdkEvent). idle_next pool b (idle_from pool (before ++ e ∷ []) (idle_next pool before idle e) h) t) (append_assoc before (e ∷ []) h)

  pub idle-pushed : (h : List TimedJdkEvent) (t : TimedJdkEvent) → idle_after pool (h ++ t ∷ []) ≡ idle_next pool h (idle_after pool h) t
  idle-pushed h t = from-pushed [] [] h t

  module _ (arrivals : List Arrival) where
    pub due-pushed : (before h : List TimedJdkEvent) (t : TimedJdkEvent) → AreDue pool arrivals before h → next_due pool arrivals (before ++ h) ≡ Some t → AreDue pool arrivals before (h ++ t ∷ [])
    due-pushed before [] t are is = (subst (λ (b : List TimedJdkEvent). next_due pool arrivals b ≡ Some t) (append-nil before) is, tt)
    due-pushed before (e ∷ h) t are is =
        (are.0, due-pushed (before ++ e ∷ []) h t are.1 (subst (λ (b : List TimedJdkEvent). next_due pool arrivals b ≡ Some t) (sym (append_assoc before (e ∷ []) h)) is))

    pub all-done : (before h : List TimedJdkEvent) → AreDue pool arrivals before h → next_due pool arrivals (before ++ h) ≡ None → GoesOn pool arrivals before h
    all-done before [] are is = subst (λ (b : List TimedJdkEvent). next_due pool arrivals b ≡ None) (append-nil before) is
    all-done before (e ∷ h) are is =
        (are.0, all-done (before ++ e ∷ []) h are.1 (subst (λ (b : List TimedJdkEvent). next_due pool arrivals b ≡ None) (sym (append_assoc before (e ∷ []) h)) is))

    same-events : (before h k : List TimedJdkEvent) → GoesOn pool arrivals before h → GoesOn pool arrivals before k → h ≡ k
    same-events before [] [] ends stops = refl
    same-events before [] (u ∷ k) ends goes = absurd (cc (ends, goes.0))
    same-events before (t ∷ h) [] goes ends = absurd (cc (ends, goes.0))
    same-events before (t ∷ h) (u ∷ k) goes too =
        let same : t ≡ u = cc (goes.0, too.0) in
        let rest = same-events (before ++ t ∷ []) h k goes.1 (subst (λ (x : TimedJdkEvent). GoesOn pool arrivals (before ++ x ∷ []) k) (sym same) too.1) in
        cc (same, rest)

pub one-history : OneHistory
one-history pool arrivals h k is too =
    is.opens ∙ ap (λ (rest : List TimedJdkEvent). opening pool ++ rest) (same-events pool arrivals (opening pool) is.rest too.rest is.goes_on too.goes_on) ∙ sym too.opens

-- ---- The submissions of a caller.

one-if : {X : Type 0} (b : Bool) (x : X) (xs : List X) → length (cond b (x ∷ xs) xs) ≡ cond b 1 0 + length xs
one-if true x xs = omega arith
one-if false x xs = omega arith

caller-pairs : (caller : ℕ) (h : List TimedJdkEvent) → length (submissions (events_in h) caller) ≡ length (filter (λ s. s.0.caller == caller) (submissions_at h))
caller-pairs caller [] = refl
caller-pairs caller (t ∷ h) = one caller t h (caller-pairs caller h) t.event refl
  where
    one : (caller : ℕ) (t : TimedJdkEvent) (h : List TimedJdkEvent) → length (submissions (events_in h) caller) ≡ length (filter (λ s. s.0.caller == caller) (submissions_at h)) → (e : JdkEvent) → t.event ≡ e
        → length (submissions (events_in (t ∷ h)) caller) ≡ length (filter (λ s. s.0.caller == caller) (submissions_at (t ∷ h)))
    one caller t h rest (Submit id reply) is = rw is (one-if (id.caller == caller) _ _ ∙ ap (λ n. cond (id.caller == caller) 1 0 + n) rest ∙ sym (one-if (id.caller == caller) _ _))
    one caller t h rest e is = rw is rest

caller-jobs : (caller : ℕ) (arrivals : List Arrival) → length (filter (λ s. s.0.caller == caller) (submissions_of arrivals)) ≡ length (of_caller caller arrivals)
caller-jobs caller [] = refl
caller-jobs caller (a ∷ arrivals) = one-if (a.id.caller == caller) _ _ ∙ ap (λ n. cond (a.id.caller == caller) 1 0 + n) (caller-jobs caller arrivals) ∙ sym (one-if (a.id.caller == caller) _ _)

-- as many submissions of a caller as jobs of it were submitted
pub caller-count : (caller : ℕ) (h : List TimedJdkEvent) (arrivals : List Arrival) → submissions_at h ≡ submissions_of arrivals → length (submissions (events_in h) caller) ≡ length (of_caller caller arrivals)
caller-count caller h arrivals same = caller-pairs caller h ∙ ap (λ (ss : List (Id × ℕ)). length (filter (λ s. s.0.caller == caller) ss)) same ∙ caller-jobs caller arrivals

-- the next job after the first ones
pub next-taken : (arrivals : List Arrival) (next : ℕ) → slice_get arrivals (length (submissions_of (take next arrivals))) ≡ slice_get arrivals next
next-taken [] next = refl
next-taken (a ∷ arrivals) zero = refl
next-taken (a ∷ arrivals) (suc next) = next-taken arrivals next
