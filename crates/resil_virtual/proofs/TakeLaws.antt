-- A pool after a take.
use Rattle.resil_virtual.proofs.Words.{inl, inr, ◌⊎◌, ◌≡◌, ◌≤◌, ◌+◌, ◌==◌, ◌∷◌, [], ◌++◌, ◌∙◌, ℕ, Bool, true, false, if◌then◌else◌, All, List, Some, drop, is_some, length, map, slice_get, sum, refl, sym, ap, subst, arith, append-nil, list_any, cases_Bool, common_steps, length-map, map-append, All-drop, All-push, All-weaker, is_among, is_same_id, times, Id, front-is, same_id-self, same_id-sym, somewhere, times-append, IsAllowed, finished, running, waiting, without, JdkEvent, Take, front-among, jobs-conserved, waiting-more, waits-few, not-among, events_in, TimedJdkEvent, earliest_end_of, ends_at, finish_from, finishes, front, idle_after, idle_next, just_finished, last_at, looks_at, next_due, none_waits, passed, take_at, takes_of, without_taker, AreSound, IsFrom, ids_to_come, job_of, own, to_run, Arrival, Idle, VirtualPool}
use Rattle.resil_virtual.proofs.HistoryLaws.{finishes-begun, no-submission}
use Rattle.resil_virtual.proofs.IdleLaws.{narrower-from, passed-end_now, passed-look_now, passed-some, passed-stay, taker-all, taker-length, taker-stay}
use Rattle.resil_virtual.proofs.ListLaws.{all-at, all-two}
use Rattle.resil_virtual.proofs.CauseLaws.{IsReached, later, within-bound}
use Rattle.resil_virtual.proofs.LoadLaws.{sum-append}
use Rattle.resil_virtual.proofs.FinishLaws.{just-is}
use Rattle.resil_virtual.proofs.SoundLaws.{IsNext, opened-more, pushed, runs-more, runs-times, workers-more}

-- a job that waits alone under its id leaves
none-left : (id : Id) (ids : List Id) → times id ids ≡ 0 → without (id ∷ []) ids ≡ ids
none-left id [] none = refl
none-left id (y ∷ ids) none = let rest = none-left id ids in grind (arith, rest, none, same_id-sym id y, cases_Bool (is_same_id id y))

front-gone : (id : Id) (ids : List Id) → slice_get ids 0 ≡ Some id → times id ids ≤ 1 → without (id ∷ []) ids ≡ drop 1 ids
front-gone id [] front once = absurd (cc front)
front-gone id (y ∷ ids) front once =
    let same : y ≡ id = cc front in let own = same_id-self id in
    let none : times id ids ≡ 0 = grind (arith, common_steps, same, own, once) in let rest = none-left id ids none in rw same (rw own rest)

module _ (pool : VirtualPool) (arrivals : List Arrival) (next : ℕ) (h : List TimedJdkEvent) (was : AreSound pool arrivals next h) (id : Id) (at : ℕ) where
  abbrev ev : List JdkEvent
  ev = events_in h

  abbrev idle : List Idle
  idle = idle_after pool h

  abbrev t : TimedJdkEvent
  t = take_at id at

  abbrev ev2 : List JdkEvent
  ev2 = ev ++ Take id ∷ []

  module _ (is : next_due pool arrivals h ≡ Some t) (waits : front ev ≡ Some id) (taker : (just_finished ev ≡ true) ⊎ (list_any (looks_at at) idle ≡ true) ⊎ (list_any (ends_at at) idle ≡ true)) (r : IsReached pool arrivals next h was at) where
    pub some : none_waits ev ≡ false
    some = go (waiting ev) waits
      where
        go : (ids : List Id) → slice_get ids 0 ≡ Some id → (length ids == 0) ≡ false
        go [] is = absurd (cc is)
        go (x ∷ ids) is = grind (arith, common_steps)

    abbrev left_idle : List Idle
    left_idle = without_taker (just_finished ev) at (map (passed false at) idle)

    pub same-idle : idle_next pool h idle t ≡ left_idle
    same-idle = rw some refl

    -- one of the workers is gone from the idle ones, or has just finished a job
    pub one-less : length left_idle + 1 ≡ length idle + own ev
    one-less = go (just_finished ev) refl taker
      where
        go : (b : Bool) → just_finished ev ≡ b → (just_finished ev ≡ true) ⊎ (list_any (looks_at at) idle ≡ true) ⊎ (list_any (ends_at at) idle ≡ true) → length (without_taker (just_finished ev) at (map (passed false at) idle)) + 1 ≡ length idle + own ev
        go true just taker = let long = length-map idle (passed false at) in let one : ◌≡◌ {A = ℕ} (if none_waits ev then 0 else 1) 1 = rw some refl in rw just (omega (arith, long, one))
        go false just (inl own) = absurd (cc (sym just ∙ own))
        go false just (inr any) =
            let long = length-map idle (passed false at) in let none : own ev ≡ 0 = rw just refl in
            let one = taker-length at (map (passed false at) idle) (elim any [ inl look ↦ inl (passed-look_now at idle ∙ look) | inr end ↦ inr (passed-end_now at false idle ∙ end) ]) in
            rw just (omega (arith, long, none, one))

    pub may : IsAllowed pool.limits ev (Take id)
    may = let one = one-less in let crew = was.crew in (waits, omega (arith, one, crew), was.opened.unstopped)

    pub waits2 : waiting ev2 ≡ drop 1 (waiting ev)
    waits2 = waiting-more pool.limits ev was.legal (Take id) may ∙ append-nil (without (id ∷ []) (waiting ev)) ∙ front-gone id (waiting ev) waits (waits-few pool.limits ev was.legal id)

    pub run2 : to_run arrivals ev ≡ takes_of arrivals id + to_run arrivals ev2
    run2 =
        let rest : sum (map (takes_of arrivals) (drop 1 (waiting ev))) ≡ to_run arrivals ev2 = ap (λ (ids : List Id). sum (map (takes_of arrivals) ids)) (sym waits2) in
        let all = ap (λ (ids : List Id). sum (map (takes_of arrivals) ids)) (front-is (waiting ev) id waits) ∙ sum-append (takes_of arrivals id ∷ []) (map (takes_of arrivals) (drop 1 (waiting ev))) in
        omega (arith, rest, all)

    -- it isn't finished
    fresh : is_among id (finished ev) ≡ false
    fresh = let all = jobs-conserved pool.limits ev was.legal id in let one = somewhere id (waiting ev) (front-among id (waiting ev) waits) in not-among id (finished ev) (omega (arith, all.sum, all.once, one))

    pub begun : finishes arrivals (h ++ t ∷ []) ≡ finishes arrivals h ++ finish_from arrivals at id ∷ []
    begun = finishes-begun arrivals h t id refl refl fresh

    jobs2 : (x : Id) → times x (ids_to_come arrivals (h ++ t ∷ [])) ≡ times x (running ev2)
    jobs2 x =
        let more = ap (λ (fs : List TimedJdkEvent). times x (map (λ f. job_of f.event) fs)) begun ∙ ap (times x) (map-append (λ (f : TimedJdkEvent). job_of f.event) (finishes arrivals h) (finish_from arrivals at id ∷ [])) ∙ times-append x (ids_to_come arrivals h) (id ∷ []) in
        let moved = runs-times pool arrivals next h was t may x in let before = was.jobs x in omega (arith, more, moved, before)

    abbrev Before : TimedJdkEvent → Type 0
    Before f = (last_at h ≤ f.at) × (f.at + to_run arrivals ev ≤ was.in_time.bound)

    abbrev After : TimedJdkEvent → Type 0
    After f = (at ≤ f.at) × (f.at + to_run arrivals ev2 ≤ was.in_time.bound)

    abbrev EndsBy : ℕ → Id → Type 0
    EndsBy run x = earliest_end_of arrivals x + run ≤ was.in_time.bound

    due2 : All After (finishes arrivals (h ++ t ∷ []))
    due2 =
        let run = run2 in let within = within-bound pool arrivals next h was t is id waits in
        let end = all-at (EndsBy (to_run arrivals ev)) (waiting ev) 0 id waits was.in_time.ends in
        rw begun (All-push After (finishes arrivals h) (finish_from arrivals at id) (all-two (λ f. at ≤ f.at) Before After (λ f ahead is. (ahead, omega (arith, is.1, run))) (finishes arrivals h) r.jobs was.in_time.jobs) (omega arith, omega (arith, within, run, end)))

    next-take : IsNext pool arrivals next h was t next
    next-take =
        let n = runs-more pool arrivals next h was t may in let w = workers-more pool arrivals next h was t may in let crew = was.crew in let one = one-less in
        let nobody : own ev2 ≡ 0 = rw (just-is false ev (Take id)) refl in let run = run2 in let within = within-bound pool arrivals next h was t is id waits in let spent = was.in_time.spent in
        let less = taker-stay at (map (passed false at) idle) (just_finished ev) in let stay = passed-stay at false idle (r.ends (inr (ap is_some waits))) in let few = was.staying in
        record {
          may = may;
          later = later pool arrivals next h was t is;
          opened = opened-more pool ev (Take id) refl refl refl refl refl was.opened;
          submissions = no-submission h t refl ∙ was.submissions;
          arrival = r.arrival;
          jobs = jobs2;
          crew = rw same-idle (omega (arith, n, w, crew, one, nobody));
          stay = rw same-idle (omega (arith, less, stay, few));
          staffed = inr (omega (arith, n));
          bound = was.in_time.bound;
          fits = was.in_time.fits;
          before = was.in_time.before;
          spent = omega (arith, spent, run);
          ends = subst (All (EndsBy (to_run arrivals ev2))) (sym waits2) (All-drop (EndsBy (to_run arrivals ev2)) 1 (waiting ev) (All-weaker (EndsBy (to_run arrivals ev)) (EndsBy (to_run arrivals ev2)) (λ x end. omega (arith, end, run)) (waiting ev) was.in_time.ends));
          due = due2;
          idlers = rw same-idle (taker-all at (map (passed false at) idle) (IsFrom at (to_run arrivals ev2) was.in_time.bound) (just_finished ev)
              (All-weaker (IsFrom at (to_run arrivals ev) was.in_time.bound) (IsFrom at (to_run arrivals ev2) was.in_time.bound) (λ w is. narrower-from at (to_run arrivals ev) (to_run arrivals ev2) was.in_time.bound w (omega (arith, run)) is) (map (passed false at) idle)
              (passed-some at (last_at h) (to_run arrivals ev) was.in_time.bound idle (rw waits at r.looks) was.in_time.idle)));
          now = inr (omega (arith, within, run));
        }

    pub taken-sound : AreSound pool arrivals next (h ++ t ∷ [])
    taken-sound = pushed pool arrivals next h was t next is next-take
