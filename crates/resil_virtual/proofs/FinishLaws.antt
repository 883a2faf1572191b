-- A pool after a finish.
use Rattle.resil_virtual.proofs.Words.{inl, inr, ◌≡◌, ◌≤◌, ◌+◌, ◌==◌, ◌∷◌, [], ◌++◌, ◌∙◌, ℕ, Bool, true, false, not, cond, if◌then◌else◌, All, List, Option, Some, None, filter, is_some, length, map, slice_get, sum, refl, sym, ap, arith, append-nil, length-append, IfSome, option_map_or, common_steps, cases_Bool, length-map, All-filter, All-head, All-push, All-tail, filter-append, is_among, is_same_id, times, Id, same_id-equal, same_id-sym, somewhere, times-filter, times-one, IsAllowed, IsLegal, JdkEvent, Finish, jobs-conserved, waiting-more, events_in, TimedJdkEvent, end_from, fallen, finished_last, finishes, front, has_spare, idle_after, idle_next, is_finish, last_at, looks_of, next_due, none_waits, passed, takes_of, AreSound, IsFrom, ids_to_come, job_of, kept, own, staying, to_run, Arrival, Idle, VirtualPool}
use Rattle.resil_rule.specs.Limits.{Sizes}
use Rattle.resil_jdk.specs.History.{finished_id, kept_size, left, queued, running, waiting, without, workers}
use Rattle.resil_jdk.proofs.LineLaws.{among-same}
use Rattle.resil_virtual.proofs.HistoryLaws.{finishes-done, is_of_other, no-submission}
use Rattle.resil_virtual.proofs.IdleLaws.{passed-none, passed-some, passed-stay}
use Rattle.resil_virtual.proofs.ListLaws.{all-two, count-few}
use Rattle.resil_virtual.proofs.CauseLaws.{IsReached, are-finishes, later, own-none}
use Rattle.resil_virtual.proofs.SoundLaws.{IsNext, opened-more, pushed, runs-more, runs-times, workers-more}

-- whether the last event is a finish
pub just-is : (other : Bool) (ev : List JdkEvent) (e : JdkEvent) → finished_last other (ev ++ e ∷ []) ≡ is_finish e
just-is other [] e = refl
just-is other (x ∷ ev) e = just-is (is_finish x) ev e

pub all-kept : (ids : List Id) → without [] ids ≡ ids
all-kept [] = refl
all-kept (id ∷ ids) = ap (λ (xs : List Id). id ∷ xs) (all-kept ids)

-- an event by which no job comes into the queue or leaves it
pub waits-same : (limits : Sizes) (ev : List JdkEvent) (e : JdkEvent) → IsLegal limits ev → IsAllowed limits ev e → left (e ∷ []) ≡ [] → queued (e ∷ []) ≡ [] → waiting (ev ++ e ∷ []) ≡ waiting ev
waits-same limits ev e legal may none nobody = waiting-more limits ev legal e may ∙ rw (none, nobody) (append-nil (without [] (waiting ev)) ∙ all-kept (waiting ev))

-- whether a job waits
pub none-front : (ev : List JdkEvent) → none_waits ev ≡ true → (waiting ev ≡ []) × (front ev ≡ None)
none-front ev is = go (waiting ev) is
  where
    go : (ids : List Id) → (length ids == 0) ≡ true → (ids ≡ []) × (slice_get ids 0 ≡ None)
    go [] is = (refl, refl)
    go (id ∷ ids) is = absurd (grind (arith, common_steps, is))

pub some-front : (ev : List JdkEvent) → none_waits ev ≡ false → is_some (front ev) ≡ true
some-front ev is = go (waiting ev) is
  where
    go : (ids : List Id) → (length ids == 0) ≡ false → is_some (slice_get ids 0) ≡ true
    go [] is = absurd (cc is)
    go (id ∷ ids) is = refl

-- ids without one of them
ids-other : (id : Id) (fs : List TimedJdkEvent) → All (λ f. f.event ≡ Finish (job_of f.event)) fs → map (λ f. job_of f.event) (filter (is_of_other id) fs) ≡ filter (λ x. not (is_same_id id x)) (map (λ f. job_of f.event) fs)
ids-other id [] all = refl
ids-other id (f ∷ fs) all =
    let rest = ids-other id fs (All-tail (λ f. f.event ≡ Finish (job_of f.event)) f fs all) in let here = All-head (λ f. f.event ≡ Finish (job_of f.event)) f fs all in
    let same : is_of_other id f ≡ not (is_same_id id (job_of f.event)) = ap (λ (e : JdkEvent). not (option_map_or (λ x. is_same_id id x) (finished_id e) false)) here in
    grind (arith, rest, same, cases_Bool (is_same_id id (job_of f.event)))

module _ (pool : VirtualPool) (arrivals : List Arrival) (next : ℕ) (h : List TimedJdkEvent) (was : AreSound pool arrivals next h) (id : Id) (at : ℕ) where
  abbrev ev : List JdkEvent
  ev = events_in h

  abbrev idle : List Idle
  idle = idle_after pool h

  abbrev t : TimedJdkEvent
  t = record { event = Finish id; at = at }

  abbrev ev2 : List JdkEvent
  ev2 = ev ++ Finish id ∷ []

  abbrev F : List TimedJdkEvent
  F = finishes arrivals h

  module _ (is : next_due pool arrivals h ≡ Some t) (runs : is_among id (ids_to_come arrivals h) ≡ true) (r : IsReached pool arrivals next h was at) where
    pub may : is_among id (running ev) ≡ true
    may = sym (among-same id (ids_to_come arrivals h) (running ev) (was.jobs id)) ∙ runs

    pub waits : waiting ev2 ≡ waiting ev
    waits = waits-same pool.limits ev (Finish id) was.legal may refl refl

    pub none2 : none_waits ev2 ≡ none_waits ev
    none2 = ap (λ (ids : List Id). length ids == 0) waits

    run2 : to_run arrivals ev2 ≡ to_run arrivals ev
    run2 = ap (λ (ids : List Id). sum (map (takes_of arrivals) ids)) waits

    -- no other job comes to that worker before
    pub own1 : own ev ≡ 0
    own1 = own-none pool arrivals next h was t is (λ x take. cc take)

    own2 : own ev2 ≡ (if none_waits ev then 0 else 1)
    own2 = rw (just-is false ev (Finish id), none2) refl

    -- its finish is gone
    pub once : times id (running ev) ≤ 1
    once = let all = jobs-conserved pool.limits ev was.legal id in omega (arith, all.sum, all.once)

    jobs2 : (x : Id) → times x (ids_to_come arrivals (h ++ t ∷ [])) ≡ times x (running ev2)
    jobs2 x =
        let fewer = ap (λ (fs : List TimedJdkEvent). times x (map (λ f. job_of f.event) fs)) (finishes-done arrivals h t id refl refl) ∙ ap (times x) (ids-other id F (are-finishes pool arrivals next h was)) ∙ times-filter (λ y. not (is_same_id id y)) x (ids_to_come arrivals h) in
        let moved = runs-times pool arrivals next h was t may x in let one = times-one x id in let before = was.jobs x in let alike = same_id-sym x id in
        go (is_same_id id x) refl fewer moved (one ∙ ap (λ (b : Bool). cond b 1 0) alike) before
      where
        go : (b : Bool) → is_same_id id x ≡ b → times x (ids_to_come arrivals (h ++ t ∷ [])) ≡ cond (not b) (times x (ids_to_come arrivals h)) 0 → times x (running ev2) + times x (id ∷ []) ≡ times x (running ev) + 0 + 0
            → times x (id ∷ []) ≡ cond b 1 0 → times x (ids_to_come arrivals h) ≡ times x (running ev) → times x (ids_to_come arrivals (h ++ t ∷ [])) ≡ times x (running ev2)
        go false apart fewer moved one before = omega (arith, fewer, moved, one, before)
        go true same fewer moved one before =
            let equal = same_id-equal id x same in let some = somewhere id (running ev) may in let most = once in
            let as_one : times x (running ev) ≡ times id (running ev) = ap (λ (y : Id). times y (running ev)) (sym equal) in
            omega (arith, fewer, moved, one, before, some, most, as_one)

    -- what runs on finishes within the bound
    abbrev Within : TimedJdkEvent → Type 0
    Within f = (at ≤ f.at) × (f.at + to_run arrivals ev ≤ was.in_time.bound)

    all-within : All Within F
    all-within = all-two (λ f. at ≤ f.at) (λ f. (last_at h ≤ f.at) × (f.at + to_run arrivals ev ≤ was.in_time.bound)) Within (λ f ahead within. (ahead, within.1)) F r.jobs was.in_time.jobs

    pub in-time : at + to_run arrivals ev ≤ was.in_time.bound
    in-time = go F all-within runs
      where
        go : (fs : List TimedJdkEvent) → All Within fs → is_among id (map (λ f. job_of f.event) fs) ≡ true → at + to_run arrivals ev ≤ was.in_time.bound
        go [] all some = absurd (cc some)
        go (f ∷ fs) all some = let first = All-head Within f fs all in omega (arith, first.0, first.1)

    due2 : All (λ f. (at ≤ f.at) × (f.at + to_run arrivals ev2 ≤ was.in_time.bound)) (finishes arrivals (h ++ t ∷ []))
    due2 = rw (finishes-done arrivals h t id refl refl, run2) (All-filter (is_of_other id) Within F all-within)

    pub counts : (length (running ev2) + 1 ≡ length (running ev)) × (workers ev2 ≡ workers ev)
    counts = let r = runs-more pool arrivals next h was t may in let w = workers-more pool arrivals next h was t may in (omega (arith, r), omega (arith, w))

    kept-is : kept_size pool.limits ev ≡ kept pool
    kept-is = rw (was.opened.time_out, was.opened.core) refl

    pub as-many : (none : Bool) → length (map (passed none at) idle) ≡ length idle
    as-many none = length-map idle (passed none at)

    -- if none is spare, as many may stay as are idle
    few-stay : (more : ℕ) → has_spare pool ev ≡ false → more + length idle ≤ workers ev → (xs : List Idle) → length xs ≤ more + length idle → staying xs ≤ kept pool
    few-stay more none within xs long =
        let all = count-few (λ (w : Idle). not (is_some w.end)) xs in let few : workers ev ≤ kept_size pool.limits ev = grind (arith, common_steps, none) in let size = kept-is in
        omega (arith, all, few, within, long, size)

    abbrev stays : Idle → Bool
    stays w = not (is_some w.end)

    -- no job waits, so its worker falls idle
    next-none : none_waits ev ≡ true → IsNext pool arrivals next h was t next
    next-none none =
        let nobody = none-front ev none in let n = counts in let crew = was.crew in let one = own1 in let many = as-many true in
        let two : own ev2 ≡ 0 = rw none at own2 in
        let long = length-append (map (passed true at) idle) (fallen (end_from pool ev at) ∷ []) in
        let same : idle_next pool h idle t ≡ map (passed true at) idle ++ fallen (end_from pool ev at) ∷ [] = rw none refl in
        record {
          may = may;
          later = later pool arrivals next h was t is;
          opened = opened-more pool ev (Finish id) refl refl refl refl refl was.opened;
          submissions = no-submission h t refl ∙ was.submissions;
          arrival = r.arrival;
          jobs = jobs2;
          crew = rw same (omega (arith, long, n.0, n.1, crew, one, many, two));
          stay = rw same (stay (has_spare pool ev) refl long n.0 crew many);
          staffed = inl (waits ∙ nobody.0);
          bound = was.in_time.bound;
          fits = was.in_time.fits;
          before = was.in_time.before;
          spent = rw run2 was.in_time.spent;
          ends = rw waits was.in_time.ends;
          due = due2;
          idlers = rw (same, run2) (All-push (IsFrom at (to_run arrivals ev) was.in_time.bound) (map (passed true at) idle) (fallen (end_from pool ev at))
              (passed-none at (last_at h) (to_run arrivals ev) was.in_time.bound idle was.in_time.idle) (record { end = ahead (has_spare pool ev); look = tt }));
          now = inl (waits ∙ nobody.0);
        }
      where
        ahead : (b : Bool) → IfSome (if b then Some (at + pool.idle_for) else None) (λ end. at ≤ end)
        ahead true = omega arith
        ahead false = tt

        stay : (b : Bool) → has_spare pool ev ≡ b → length (map (passed true at) idle ++ fallen (end_from pool ev at) ∷ []) ≡ length (map (passed true at) idle) + 1 → length (running ev2) + 1 ≡ length (running ev)
            → length (running ev) + length idle + own ev ≡ workers ev → length (map (passed true at) idle) ≡ length idle → staying (map (passed true at) idle ++ fallen (end_from pool ev at) ∷ []) ≤ kept pool
        stay true spare long n crew many =
            let split = ap length (filter-append stays (map (passed true at) idle) (fallen (end_from pool ev at) ∷ [])) ∙ length-append (filter stays (map (passed true at) idle)) (filter stays (fallen (end_from pool ev at) ∷ [])) in
            let none_more : length (filter stays (fallen (end_from pool ev at) ∷ [])) ≡ 0 = rw spare refl in
            let same = passed-stay at true idle (r.ends (inl spare)) in let few = was.staying in
            omega (arith, split, none_more, same, few)
        stay false spare long n crew many = few-stay 1 spare (omega (arith, n, crew)) (map (passed true at) idle ++ fallen (end_from pool ev at) ∷ []) (omega (arith, long, many))

    -- a job waits, so its worker looks at once
    next-some : none_waits ev ≡ false → IsNext pool arrivals next h was t next
    next-some some =
        let front_is = some-front ev some in let n = counts in let crew = was.crew in let one = own1 in let many = as-many false in
        let two : own ev2 ≡ 1 = rw some at own2 in
        let same : idle_next pool h idle t ≡ map (passed false at) idle = rw some refl in
        let stay = passed-stay at false idle (r.ends (inr front_is)) in let few = was.staying in
        record {
          may = may;
          later = later pool arrivals next h was t is;
          opened = opened-more pool ev (Finish id) refl refl refl refl refl was.opened;
          submissions = no-submission h t refl ∙ was.submissions;
          arrival = r.arrival;
          jobs = jobs2;
          crew = rw same (omega (arith, n.0, n.1, crew, one, many, two));
          stay = rw same (omega (arith, stay, few));
          staffed = inr (rw same (omega (arith, two)));
          bound = was.in_time.bound;
          fits = was.in_time.fits;
          before = was.in_time.before;
          spent = rw run2 was.in_time.spent;
          ends = rw waits was.in_time.ends;
          due = due2;
          idlers = rw (same, run2) (passed-some at (last_at h) (to_run arrivals ev) was.in_time.bound idle (looks (front ev) front_is r.looks) was.in_time.idle);
          now = inr (rw run2 in-time);
        }
      where
        looks : (o : Option Id) → is_some o ≡ true → IfSome o (λ id. All (λ look. at ≤ look) (looks_of idle)) → All (λ look. at ≤ look) (looks_of idle)
        looks None some all = absurd (cc some)
        looks (Some x) some all = all

    pub finished-sound : AreSound pool arrivals next (h ++ t ∷ [])
    finished-sound = pushed pool arrivals next h was t next is (elim (cases_Bool (none_waits ev)) [ inl none ↦ next-none none | inr some ↦ next-some some ])
