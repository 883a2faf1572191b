-- A pool after an end.
use Rattle.resil_virtual.proofs.Words.{inl, ◌≡◌, ◌≤◌, ◌<◌, ◌+◌, ◌==◌, ◌∷◌, [], ◌++◌, ◌∙◌, ℕ, true, false, not, List, Some, None, is_some, length, map, slice_get, sum, refl, ap, arith, list_any, common_steps, length-map, times, Id, IsAllowed, kept_size, running, waiting, workers, JdkEvent, IdleEnd, events_in, TimedJdkEvent, end_at, ends_at, finishes, front, has_spare, idle_after, idle_next, last_at, next_due, none_waits, passed, takes_of, without_first, AreSound, IsFrom, ids_to_come, job_of, own, to_run, Arrival, Idle, VirtualPool}
use Rattle.resil_virtual.proofs.HistoryLaws.{finishes-same, no-submission}
use Rattle.resil_virtual.proofs.IdleLaws.{passed-end_now, passed-none, passed-stay, without-all, without-count, without-one}
use Rattle.resil_virtual.proofs.ListLaws.{all-two}
use Rattle.resil_virtual.proofs.CauseLaws.{IsReached, later, own-none}
use Rattle.resil_virtual.proofs.FinishLaws.{just-is, waits-same}
use Rattle.resil_virtual.proofs.SoundLaws.{IsNext, opened-more, pushed, runs-more, runs-times, workers-more}

module _ (pool : VirtualPool) (arrivals : List Arrival) (next : ℕ) (h : List TimedJdkEvent) (was : AreSound pool arrivals next h) (at : ℕ) where
  abbrev ev : List JdkEvent
  ev = events_in h

  abbrev idle : List Idle
  idle = idle_after pool h

  abbrev t : TimedJdkEvent
  t = end_at at

  abbrev ev2 : List JdkEvent
  ev2 = ev ++ IdleEnd ∷ []

  module _ (is : next_due pool arrivals h ≡ Some t) (nobody : front ev ≡ None) (spare : has_spare pool ev ≡ true) (worker : list_any (ends_at at) idle ≡ true) (r : IsReached pool arrivals next h was at) where
    empty : waiting ev ≡ []
    empty = go (waiting ev) nobody
      where
        go : (ids : List Id) → slice_get ids 0 ≡ None → ids ≡ []
        go [] is = refl
        go (x ∷ ids) is = absurd (cc is)

    pub none : none_waits ev ≡ true
    none = ap (λ (ids : List Id). length ids == 0) empty

    pub same-idle : idle_next pool h idle t ≡ without_first (ends_at at) (map (passed true at) idle)
    same-idle = rw none refl

    pub one-less : length (without_first (ends_at at) (map (passed true at) idle)) + 1 ≡ length idle
    one-less = without-one (ends_at at) (map (passed true at) idle) (passed-end_now at true idle ∙ worker) ∙ length-map idle (passed true at)

    own1 : own ev ≡ 0
    own1 = own-none pool arrivals next h was t is (λ x take. cc take)

    pub may : IsAllowed pool.limits ev IdleEnd
    may =
        let one = one-less in let crew = was.crew in let zero_own = own1 in let more : kept_size pool.limits ev < workers ev = grind (arith, common_steps, spare) in
        (empty, omega (arith, one, crew, zero_own), inl more)

    pub waits2 : waiting ev2 ≡ waiting ev
    waits2 = waits-same pool.limits ev IdleEnd was.legal may refl refl

    run2 : to_run arrivals ev2 ≡ to_run arrivals ev
    run2 = ap (λ (ids : List Id). sum (map (takes_of arrivals) ids)) waits2

    jobs2 : (x : Id) → times x (ids_to_come arrivals (h ++ t ∷ [])) ≡ times x (running ev2)
    jobs2 x =
        let same = ap (λ (fs : List TimedJdkEvent). times x (map (λ f. job_of f.event) fs)) (finishes-same arrivals h t refl refl) in
        let moved = runs-times pool arrivals next h was t may x in let before = was.jobs x in omega (arith, same, moved, before)

    next-end : IsNext pool arrivals next h was t next
    next-end =
        let n = runs-more pool arrivals next h was t may in let w = workers-more pool arrivals next h was t may in let crew = was.crew in let one = one-less in let zero_own = own1 in
        let nobody_own : own ev2 ≡ 0 = rw (just-is false ev IdleEnd) refl in
        let less = without-count (ends_at at) (λ (w : Idle). not (is_some w.end)) (map (passed true at) idle) in let stay = passed-stay at true idle (r.ends (inl spare)) in let few = was.staying in
        record {
          may = may;
          later = later pool arrivals next h was t is;
          opened = opened-more pool ev IdleEnd refl refl refl refl refl was.opened;
          submissions = no-submission h t refl ∙ was.submissions;
          arrival = r.arrival;
          jobs = jobs2;
          crew = rw same-idle (omega (arith, n, w, crew, one, zero_own, nobody_own));
          stay = rw same-idle (omega (arith, less, stay, few));
          staffed = inl (waits2 ∙ empty);
          bound = was.in_time.bound;
          fits = was.in_time.fits;
          before = was.in_time.before;
          spent = rw run2 was.in_time.spent;
          ends = rw waits2 was.in_time.ends;
          due = rw (finishes-same arrivals h t refl refl, run2) (all-two (λ f. at ≤ f.at) (λ f. (last_at h ≤ f.at) × (f.at + to_run arrivals ev ≤ was.in_time.bound)) (λ f. (at ≤ f.at) × (f.at + to_run arrivals ev ≤ was.in_time.bound))
              (λ f ahead is. (ahead, is.1)) (finishes arrivals h) r.jobs was.in_time.jobs);
          idlers = rw (same-idle, run2) (without-all (ends_at at) (IsFrom at (to_run arrivals ev) was.in_time.bound) (map (passed true at) idle) (passed-none at (last_at h) (to_run arrivals ev) was.in_time.bound idle was.in_time.idle));
          now = inl (waits2 ∙ empty);
        }

    pub ended-sound : AreSound pool arrivals next (h ++ t ∷ [])
    ended-sound = pushed pool arrivals next h was t next is next-end
