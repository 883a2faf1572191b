-- What is due next, and what it isn't before.
use Rattle.resil_virtual.proofs.Words.{inl, inr, ◌⊎◌, ◌≡◌, ◌≤◌, ◌+◌, ◌==◌, ◌∷◌, [], ◌++◌, ◌∙◌, ℕ, Bool, true, false, ◌||◌, if◌then◌else◌, All, List, Option, Some, None, is_some, length, map, option_map, option_to_list, slice_get, refl, sym, ap, arith, append_assoc, cons_option, filter_map, list_any, IfSome, option_map_or, common_steps, length-map, All-append, All-cons, All-filter, All-head, All-map, All-nil, All-tail, All-weaker, is_among, is_same_id, Id, same_id-self, same-length, finished, running, waiting, JdkEvent, Finish, IdleEnd, Take, events_in, TimedJdkEvent, begun_id, earliest, end_at, ends_at, ends_due, ends_of, finish_from, finish_of, finishes, front, has_spare, idle_after, is_at, is_to_come, just_finished, last_at, looks_at, looks_due, looks_of, next_due, own_takes, submission, submissions_due, take_at, AreSound, IsFrom, ids_to_come, job_of, own, to_run, Arrival, Idle, VirtualPool}
use Rattle.resil_virtual.proofs.FirstLaws.{among, first-is, least}
use Rattle.resil_virtual.proofs.HistoryLaws.{next-taken}
use Rattle.resil_virtual.proofs.ListLaws.{all-left, all-mapped, all-right, all-two}

abbrev pub at_of : TimedJdkEvent → ℕ
at_of timed = timed.at

or-true : (b : Bool) → (b || true) ≡ true
or-true true = refl
or-true false = refl

-- the looks and the ends of workers that are of a time or later
cons-all : (P : ℕ → Type 0) (o : Option ℕ) (xs : List ℕ) → IfSome o P → All P xs → All P (cons_option o xs)
cons-all P None xs one all = all
cons-all P (Some x) xs one all = All-cons P x xs one all

looks-from : (at run bound : ℕ) (idle : List Idle) → All (IsFrom at run bound) idle → All (λ look. at ≤ look) (looks_of idle)
looks-from at run bound [] all = All-nil (λ look. at ≤ look)
looks-from at run bound (w ∷ idle) all =
    cons-all (λ look. at ≤ look) w.look (looks_of idle) (go w.look (All-head (IsFrom at run bound) w idle all).look) (looks-from at run bound idle (All-tail (IsFrom at run bound) w idle all))
  where
    go : (o : Option ℕ) → IfSome o (λ look. (at ≤ look) × (look + run ≤ bound)) → IfSome o (λ look. at ≤ look)
    go None le = tt
    go (Some look) le = le.0

looks-within : (at run bound : ℕ) (idle : List Idle) → All (IsFrom at run bound) idle → All (λ look. look + run ≤ bound) (looks_of idle)
looks-within at run bound [] all = All-nil (λ look. look + run ≤ bound)
looks-within at run bound (w ∷ idle) all =
    cons-all (λ look. look + run ≤ bound) w.look (looks_of idle) (go w.look (All-head (IsFrom at run bound) w idle all).look) (looks-within at run bound idle (All-tail (IsFrom at run bound) w idle all))
  where
    go : (o : Option ℕ) → IfSome o (λ look. (at ≤ look) × (look + run ≤ bound)) → IfSome o (λ look. look + run ≤ bound)
    go None le = tt
    go (Some look) le = le.1

ends-from : (at run bound : ℕ) (idle : List Idle) → All (IsFrom at run bound) idle → All (λ end. at ≤ end) (ends_of idle)
ends-from at run bound [] all = All-nil (λ end. at ≤ end)
ends-from at run bound (w ∷ idle) all =
    cons-all (λ end. at ≤ end) w.end (ends_of idle) (All-head (IsFrom at run bound) w idle all).end (ends-from at run bound idle (All-tail (IsFrom at run bound) w idle all))

-- one of the workers passes at each of the times that they have
module _ (time : Idle → Option ℕ) where
  abbrev IsOne : List Idle → ℕ → Type 0
  IsOne idle at = list_any (λ w. is_at at (time w)) idle ≡ true

  own-at : (idle : List Idle) (w : Idle) (o : Option ℕ) → time w ≡ o → IfSome o (IsOne (w ∷ idle))
  own-at idle w None is = tt
  own-at idle w (Some at) is = rw is (grind (arith, common_steps))

  one-more : (idle : List Idle) (w : Idle) (at : ℕ) → IsOne idle at → IsOne (w ∷ idle) at
  one-more idle w at one = rw one (or-true (is_at at (time w)))

  pub times-any : (idle : List Idle) → All (IsOne idle) (filter_map time idle)
  times-any [] = All-nil (IsOne [])
  times-any (w ∷ idle) =
      cons-all (IsOne (w ∷ idle)) (time w) (filter_map time idle) (own-at idle w (time w) refl) (All-weaker (IsOne idle) (IsOne (w ∷ idle)) (one-more idle w) (filter_map time idle) (times-any idle))

looks-any : (idle : List Idle) → All (λ at. list_any (looks_at at) idle ≡ true) (looks_of idle)
looks-any idle = times-any (λ w. w.look) idle

ends-any : (idle : List Idle) → All (λ at. list_any (ends_at at) idle ≡ true) (ends_of idle)
ends-any idle = times-any (λ w. w.end) idle

module _ (pool : VirtualPool) (arrivals : List Arrival) (next : ℕ) (h : List TimedJdkEvent) (was : AreSound pool arrivals next h) where
  abbrev ev : List JdkEvent
  ev = events_in h

  abbrev idle : List Idle
  idle = idle_after pool h

  abbrev pub next_job : List TimedJdkEvent
  next_job = option_to_list (option_map (submission pool.limits ev) (slice_get arrivals next))

  pub jobs-are : submissions_due pool arrivals h ≡ next_job
  jobs-are = ap (λ (a : Option Arrival). option_to_list (option_map (submission pool.limits ev) a)) (ap (λ (ss : List (Id × ℕ)). slice_get arrivals (length ss)) was.submissions ∙ next-taken arrivals next)

  -- all that is due, in two parts
  abbrev pub others : List TimedJdkEvent
  others = finishes arrivals h ++ (looks_due h idle ++ (next_job ++ ends_due pool h idle))

  -- ---- What is due next is one of these.

  pub record IsTake (t : TimedJdkEvent) : Type 0 where
    pub id : Id
    pub waits : front ev ≡ Some id
    pub takes : t.event ≡ Take id
    pub taker : (just_finished ev ≡ true) ⊎ (list_any (looks_at t.at) idle ≡ true) ⊎ (list_any (ends_at t.at) idle ≡ true)

  pub record IsFinish (t : TimedJdkEvent) : Type 0 where
    pub id : Id
    pub finishes : t.event ≡ Finish id
    pub runs : is_among id (ids_to_come arrivals h) ≡ true

  pub record IsJob (t : TimedJdkEvent) : Type 0 where
    pub job : Arrival
    pub comes : slice_get arrivals next ≡ Some job
    pub is : t ≡ submission pool.limits ev job

  pub record IsEnd (t : TimedJdkEvent) : Type 0 where
    pub none : front ev ≡ None
    pub spare : has_spare pool ev ≡ true
    pub ends : t.event ≡ IdleEnd
    pub worker : list_any (ends_at t.at) idle ≡ true

  abbrev pub Cause : TimedJdkEvent → Type 0
  Cause t = IsTake t ⊎ IsFinish t ⊎ IsJob t ⊎ IsEnd t

  pub due-with : next_due pool arrivals h ≡ earliest at_of (own_takes h ++ others)
  due-with =
      ap (λ (ss : List TimedJdkEvent). earliest at_of (own_takes h ++ finishes arrivals h ++ looks_due h idle ++ ss ++ ends_due pool h idle)) jobs-are
      ∙ ap (earliest at_of) (append_assoc (own_takes h ++ finishes arrivals h ++ looks_due h idle) next_job (ends_due pool h idle)
      ∙ append_assoc (own_takes h ++ finishes arrivals h) (looks_due h idle) (next_job ++ ends_due pool h idle)
      ∙ append_assoc (own_takes h) (finishes arrivals h) (looks_due h idle ++ (next_job ++ ends_due pool h idle)))

  own-cause : All Cause (own_takes h)
  own-cause = go (just_finished ev) refl (front ev) refl
    where
      go : (b : Bool) → just_finished ev ≡ b → (o : Option Id) → front ev ≡ o → All Cause (if b then option_to_list (option_map (λ id. take_at id (last_at h)) o) else [])
      go false just o is = All-nil Cause
      go true just None is = All-nil Cause
      go true just (Some id) is = All-cons Cause (take_at id (last_at h)) [] (inl (record { id = id; waits = is; takes = refl; taker = inl just })) (All-nil Cause)

  looks-cause : All Cause (looks_due h idle)
  looks-cause = go (front ev) refl
    where
      go : (o : Option Id) → front ev ≡ o → All Cause (option_map_or (λ id. map (take_at id) (looks_of idle)) o [])
      go None is = All-nil Cause
      go (Some id) is = All-map Cause (take_at id) (looks_of idle) (All-weaker (λ at. list_any (looks_at at) idle ≡ true) (λ at. Cause (take_at id at))
          (λ at some. inl (record { id = id; waits = is; takes = refl; taker = inr (inl some) })) (looks_of idle) (looks-any idle))

  ends-cause : All Cause (ends_due pool h idle)
  ends-cause = go (front ev) refl (has_spare pool ev) refl
    where
      go : (o : Option Id) → front ev ≡ o → (b : Bool) → has_spare pool ev ≡ b → All Cause (option_map_or (λ id. map (take_at id) (ends_of idle)) o (if b then map end_at (ends_of idle) else []))
      go None is false spare = All-nil Cause
      go None is true spare = All-map Cause end_at (ends_of idle) (All-weaker (λ at. list_any (ends_at at) idle ≡ true) (λ at. Cause (end_at at))
          (λ at some. inr (inr (inr (record { none = is; spare = spare; ends = refl; worker = some })))) (ends_of idle) (ends-any idle))
      go (Some id) is b spare = All-map Cause (take_at id) (ends_of idle) (All-weaker (λ at. list_any (ends_at at) idle ≡ true) (λ at. Cause (take_at id at))
          (λ at some. inl (record { id = id; waits = is; takes = refl; taker = inr (inr some) })) (ends_of idle) (ends-any idle))

  job-cause : All Cause next_job
  job-cause = go (slice_get arrivals next) refl
    where
      go : (o : Option Arrival) → slice_get arrivals next ≡ o → All Cause (option_to_list (option_map (submission pool.limits ev) o))
      go None is = All-nil Cause
      go (Some a) is = All-cons Cause (submission pool.limits ev a) [] (inr (inr (inl (record { job = a; comes = is; is = refl })))) (All-nil Cause)

  -- each finish is that of its job
  finishes-only : (k : List TimedJdkEvent) → All (λ f. f.event ≡ Finish (job_of f.event)) (filter_map (finish_of arrivals) k)
  finishes-only [] = All-nil (λ f. f.event ≡ Finish (job_of f.event))
  finishes-only (t ∷ k) = go (begun_id t.event) (finishes-only k)
    where
      go : (o : Option Id) → All (λ f. f.event ≡ Finish (job_of f.event)) (filter_map (finish_of arrivals) k) → All (λ f. f.event ≡ Finish (job_of f.event)) (cons_option (option_map (finish_from arrivals t.at) o) (filter_map (finish_of arrivals) k))
      go None rest = rest
      go (Some id) rest = All-cons (λ f. f.event ≡ Finish (job_of f.event)) (finish_from arrivals t.at id) (filter_map (finish_of arrivals) k) refl rest

  finish-among : (all some : List TimedJdkEvent) → ((id : Id) → is_among id (map (λ f. job_of f.event) some) ≡ true → is_among id (map (λ f. job_of f.event) all) ≡ true)
      → All (λ f. is_among (job_of f.event) (map (λ f. job_of f.event) all) ≡ true) some
  finish-among all [] more = All-nil (λ f. is_among (job_of f.event) (map (λ f. job_of f.event) all) ≡ true)
  finish-among all (f ∷ some) more =
      All-cons (λ f. is_among (job_of f.event) (map (λ f. job_of f.event) all) ≡ true) f some (more (job_of f.event) (rw (same_id-self (job_of f.event)) refl))
      (finish-among all some (λ id is. more id (rw is (or-true (is_same_id id (job_of f.event))))))

  pub are-finishes : All (λ f. f.event ≡ Finish (job_of f.event)) (finishes arrivals h)
  are-finishes = All-filter (is_to_come (finished ev)) (λ f. f.event ≡ Finish (job_of f.event)) (filter_map (finish_of arrivals) h) (finishes-only h)

  finish-cause : All Cause (finishes arrivals h)
  finish-cause =
      all-two (λ f. f.event ≡ Finish (job_of f.event)) (λ f. is_among (job_of f.event) (ids_to_come arrivals h) ≡ true) Cause
      (λ f is some. inr (inl (record { id = job_of f.event; finishes = is; runs = some }))) (finishes arrivals h)
      are-finishes
      (finish-among (finishes arrivals h) (finishes arrivals h) (λ id is. is))

  pub cause : (t : TimedJdkEvent) → next_due pool arrivals h ≡ Some t → Cause t
  cause t is = among at_of Cause (own_takes h ++ others)
      (All-append Cause (own_takes h) others own-cause (All-append Cause (finishes arrivals h) (looks_due h idle ++ (next_job ++ ends_due pool h idle)) finish-cause
      (All-append Cause (looks_due h idle) (next_job ++ ends_due pool h idle) looks-cause (All-append Cause next_job (ends_due pool h idle) job-cause ends-cause)))) t (sym due-with ∙ is)

  -- ---- Nothing is due before it.

  pub record IsReached (at : ℕ) : Type 0 where
    pub jobs : All (λ f. at ≤ f.at) (finishes arrivals h)
    pub arrival : IfSome (slice_get arrivals next) (λ a. at ≤ a.at)
    pub looks : IfSome (front ev) (λ id. All (λ look. at ≤ look) (looks_of idle))
    pub ends : (has_spare pool ev ≡ true) ⊎ (is_some (front ev) ≡ true) → All (λ end. at ≤ end) (ends_of idle)

  abbrev pub From : ℕ → TimedJdkEvent → Type 0
  From at timed = at ≤ timed.at

  pub reached : (t : TimedJdkEvent) → next_due pool arrivals h ≡ Some t → IsReached t.at
  reached t is =
      let all = all-right (From t.at) (own_takes h) others (least at_of (own_takes h ++ others) t (sym due-with ∙ is)) in
      let rest = all-right (From t.at) (finishes arrivals h) (looks_due h idle ++ (next_job ++ ends_due pool h idle)) all in
      let last = all-right (From t.at) (looks_due h idle) (next_job ++ ends_due pool h idle) rest in
      record {
        jobs = all-left (From t.at) (finishes arrivals h) (looks_due h idle ++ (next_job ++ ends_due pool h idle)) all;
        arrival = the-job (slice_get arrivals next) (all-left (From t.at) next_job (ends_due pool h idle) last);
        looks = the-looks (front ev) (all-left (From t.at) (looks_due h idle) (next_job ++ ends_due pool h idle) rest);
        ends = the-ends (front ev) (has_spare pool ev) (all-right (From t.at) next_job (ends_due pool h idle) last);
      }
    where
      the-job : (o : Option Arrival) → All (From t.at) (option_to_list (option_map (submission pool.limits ev) o)) → IfSome o (λ a. t.at ≤ a.at)
      the-job None all = tt
      the-job (Some a) all = All-head (From t.at) (submission pool.limits ev a) [] all

      the-looks : (o : Option Id) → All (From t.at) (option_map_or (λ id. map (take_at id) (looks_of idle)) o []) → IfSome o (λ id. All (λ look. t.at ≤ look) (looks_of idle))
      the-looks None all = tt
      the-looks (Some id) all = all-mapped (take_at id) (From t.at) (looks_of idle) all

      the-ends : (o : Option Id) (b : Bool) → All (From t.at) (option_map_or (λ id. map (take_at id) (ends_of idle)) o (if b then map end_at (ends_of idle) else [])) → (b ≡ true) ⊎ (is_some o ≡ true) → All (λ end. t.at ≤ end) (ends_of idle)
      the-ends None true all some = all-mapped end_at (From t.at) (ends_of idle) all
      the-ends None false all (inl some) = absurd (cc some)
      the-ends None false all (inr some) = absurd (cc some)
      the-ends (Some id) b all some = all-mapped (take_at id) (From t.at) (ends_of idle) all

  -- ---- Nothing is due before now.

  pub now-jobs : All (From (last_at h)) (finishes arrivals h)
  now-jobs = All-weaker (λ f. (last_at h ≤ f.at) × (f.at + to_run arrivals ev ≤ was.in_time.bound)) (From (last_at h)) (λ f is. is.0) (finishes arrivals h) was.in_time.jobs

  pub now-job : (o : Option Arrival) → IfSome o (λ a. last_at h ≤ a.at) → All (From (last_at h)) (option_to_list (option_map (submission pool.limits ev) o))
  now-job None le = All-nil (From (last_at h))
  now-job (Some a) le = All-cons (From (last_at h)) (submission pool.limits ev a) [] le (All-nil (From (last_at h)))

  now-looks : (o : Option Id) → All (From (last_at h)) (option_map_or (λ id. map (take_at id) (looks_of idle)) o [])
  now-looks None = All-nil (From (last_at h))
  now-looks (Some id) = All-map (From (last_at h)) (take_at id) (looks_of idle) (looks-from (last_at h) (to_run arrivals ev) was.in_time.bound idle was.in_time.idle)

  now-ends : (o : Option Id) (b : Bool) → All (From (last_at h)) (option_map_or (λ id. map (take_at id) (ends_of idle)) o (if b then map end_at (ends_of idle) else []))
  now-ends None false = All-nil (From (last_at h))
  now-ends None true = All-map (From (last_at h)) end_at (ends_of idle) (ends-from (last_at h) (to_run arrivals ev) was.in_time.bound idle was.in_time.idle)
  now-ends (Some id) b = All-map (From (last_at h)) (take_at id) (ends_of idle) (ends-from (last_at h) (to_run arrivals ev) was.in_time.bound idle was.in_time.idle)

  pub now-others : All (From (last_at h)) others
  now-others = All-append (From (last_at h)) (finishes arrivals h) (looks_due h idle ++ (next_job ++ ends_due pool h idle)) now-jobs
      (All-append (From (last_at h)) (looks_due h idle) (next_job ++ ends_due pool h idle) (now-looks (front ev))
      (All-append (From (last_at h)) next_job (ends_due pool h idle) (now-job (slice_get arrivals next) was.arrival) (now-ends (front ev) (has_spare pool ev))))

  now-own : (b : Bool) (o : Option Id) → All (From (last_at h)) (if b then option_to_list (option_map (λ id. take_at id (last_at h)) o) else [])
  now-own false o = All-nil (From (last_at h))
  now-own true None = All-nil (From (last_at h))
  now-own true (Some id) = All-cons (From (last_at h)) (take_at id (last_at h)) [] (omega arith) (All-nil (From (last_at h)))

  pub later : (t : TimedJdkEvent) → next_due pool arrivals h ≡ Some t → last_at h ≤ t.at
  later t is = among at_of (From (last_at h)) (own_takes h ++ others) (All-append (From (last_at h)) (own_takes h) others (now-own (just_finished ev) (front ev)) now-others) t (sym due-with ∙ is)

  -- a worker that has just finished a job takes one that waits, before all else
  pub own-first : (t : TimedJdkEvent) → next_due pool arrivals h ≡ Some t → just_finished ev ≡ true → (id : Id) → front ev ≡ Some id → t ≡ take_at id (last_at h)
  own-first t is just id waits =
      let mine : own_takes h ≡ take_at id (last_at h) ∷ [] = rw (just, waits) refl in
      let some : Some t ≡ Some (take_at id (last_at h)) =
      sym is ∙ due-with ∙ ap (λ (own : List TimedJdkEvent). earliest at_of (own ++ others)) mine ∙ first-is at_of (take_at id (last_at h)) others now-others in
      cc some

  -- somebody comes to the job that waits, within the bound
  pub within-bound : (t : TimedJdkEvent) → next_due pool arrivals h ≡ Some t → (id : Id) → front ev ≡ Some id → t.at + to_run arrivals ev ≤ was.in_time.bound
  within-bound t is id waits = go (just_finished ev) refl was.in_time.now was.staffed
    where
      go : (b : Bool) → just_finished ev ≡ b → (waiting ev ≡ []) ⊎ (last_at h + to_run arrivals ev ≤ was.in_time.bound)
          → (waiting ev ≡ []) ⊎ (1 ≤ length (running ev) + own ev + length (looks_of idle)) → t.at + to_run arrivals ev ≤ was.in_time.bound
      go b just (inl none) staffed = absurd (cc (rw none at waits))
      go true just (inr now) staffed = let same = ap (λ (timed : TimedJdkEvent). timed.at) (own-first t is just id waits) in omega (arith, same, now)
      go false just (inr now) (inl none) = absurd (cc (rw none at waits))
      go false just (inr now) (inr some) =
          let nobody : own ev ≡ 0 = rw just refl in let r = reached t is in let long = same-length (ids_to_come arrivals h) (running ev) was.jobs in
          let as_many = length-map (finishes arrivals h) (λ (f : TimedJdkEvent). job_of f.event) in
          one (finishes arrivals h) was.in_time.jobs r.jobs (looks_of idle) (rw waits at r.looks) (looks-within (last_at h) (to_run arrivals ev) was.in_time.bound idle was.in_time.idle) (omega (arith, some, nobody, long, as_many))
        where
          one : (fs : List TimedJdkEvent) → All (λ f. (last_at h ≤ f.at) × (f.at + to_run arrivals ev ≤ was.in_time.bound)) fs → All (λ f. t.at ≤ f.at) fs
              → (looks : List ℕ) → All (λ look. t.at ≤ look) looks → All (λ look. look + to_run arrivals ev ≤ was.in_time.bound) looks → 1 ≤ length fs + length looks → t.at + to_run arrivals ev ≤ was.in_time.bound
          one (f ∷ fs) all ahead looks later within some = omega (arith, (All-head (λ f. (last_at h ≤ f.at) × (f.at + to_run arrivals ev ≤ was.in_time.bound)) f fs all).1, All-head (λ f. t.at ≤ f.at) f fs ahead)
          one [] all ahead (look ∷ looks) later within some = omega (arith, All-head (λ look. t.at ≤ look) look looks later, All-head (λ look. look + to_run arrivals ev ≤ was.in_time.bound) look looks within)
          one [] all ahead [] later within some = absurd (omega (arith, some))

  -- else nobody has just finished a job while one waits
  pub own-none : (t : TimedJdkEvent) → next_due pool arrivals h ≡ Some t → ((id : Id) → t.event ≡ Take id → ⊥) → own ev ≡ 0
  own-none t is other = go (just_finished ev) refl (waiting ev) refl
    where
      go : (b : Bool) → just_finished ev ≡ b → (ids : List Id) → waiting ev ≡ ids → ◌≡◌ {A = ℕ} (if b then (if length ids == 0 then 0 else 1) else 0) 0
      go false just ids waits = refl
      go true just [] waits = refl
      go true just (id ∷ ids) waits =
          absurd (other id (ap (λ (timed : TimedJdkEvent). timed.event) (own-first t is just id (ap (λ (ids : List Id). slice_get ids 0) waits))))
