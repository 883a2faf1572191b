-- A pool after a submission.
use Rattle.resil_virtual.proofs.Words.{inl, inr, ◌⊎◌, ◌≡◌, ◌≤◌, ◌<◌, ◌+◌, ◌-◌, ◌*◌, ◌^◌, ◌==◌, ◌&&◌, ◌∷◌, [], ◌++◌, ◌∙◌, ℕ, zero, suc, Bool, true, false, not, if◌then◌else◌, All, List, Option, Some, None, is_some, filter, length, map, max, nat_lt, slice_get, sum, take, refl, sym, ap, subst, arith, length-append, IfSome, common_steps, length-map, length-take-le, map-append, take_all, All-push, All-take, All-weaker, filter-append, filter_map-append, is_among, times, Id, times-append, not-among, IsAllowed, reply_after, JdkReply, Core, First, Queued, Handed, Extra, Full, Closed, JdkEvent, Submit, jobs-conserved, next-fresh, waiting-more, nowhere, events_in, TimedJdkEvent, begun, begun_id, earliest_end_of, finish_from, finishes, front, has_spare, idle_after, idle_next, last_at, looks_of, next_due, none_waits, passed, takes_of, wake_first, runs_of, AreSound, HasRun, IsFrom, ids_to_come, job_of, kept, own, reply_by, staying, submitted_end, submitted_run, to_run, Arrival, Idle, VirtualPool}
use Rattle.resil_jdk.specs.History.{finished, kept_size, left, next_number, queued, run_at_once, running, waiting, workers}
use Rattle.resil_jdk.proofs.ReplyLaws.{says-after}
use Rattle.resil_virtual.proofs.HistoryLaws.{caller-count, finishes-begun, finishes-same, one-submission}
use Rattle.resil_virtual.proofs.IdleLaws.{passed-looks, passed-none, passed-some, passed-stay, wake-all, wake-length, wake-looks, wake-staying, wider-from, woken-from}
use Rattle.resil_virtual.proofs.ListLaws.{all-two, count-few, count-taken}
use Rattle.resil_virtual.proofs.LoadLaws.{all-runs, its-run, last-end, more, sum-append, then-comes}
use Rattle.resil_virtual.proofs.CauseLaws.{IsReached, later, own-none}
use Rattle.resil_virtual.proofs.FinishLaws.{all-kept, just-is, none-front, some-front, waits-same}
use Rattle.resil_virtual.proofs.SoundLaws.{IsNext, opened-more, pushed, runs-more, runs-times, workers-more}

-- ---- The answer.

-- the answer of the pool is that of the rule
pub reply-is : (pool : VirtualPool) (arrivals : List Arrival) (next : ℕ) (h : List TimedJdkEvent) → AreSound pool arrivals next h
    → reply_by pool.limits (workers (events_in h)) (length (waiting (events_in h))) (length (running (events_in h))) ≡ reply_after pool.limits (events_in h)
reply-is pool arrivals next h was = sym (rw (was.opened.unclosed, was.opened.core, was.opened.max) refl)

queued-one : (k p z hd m : Bool) → Queued ≡ (if k then Core else if p then (if z then First else Queued) else if hd then Handed else if m then Extra else Full) → z ≡ false
queued-one true p z hd m is = absurd (cc is)
queued-one false true true hd m is = absurd (cc is)
queued-one false true false hd m is = refl
queued-one false false z true m is = absurd (cc is)
queued-one false false z false true is = absurd (cc is)
queued-one false false z false false is = absurd (cc is)

not-closed : (k p z hd m : Bool) → Closed ≡ (if k then Core else if p then (if z then First else Queued) else if hd then Handed else if m then Extra else Full) → ⊥
not-closed true p z hd m is = cc is
not-closed false true true hd m is = cc is
not-closed false true false hd m is = cc is
not-closed false false z true m is = cc is
not-closed false false z false true is = cc is
not-closed false false z false false is = cc is

module _ (pool : VirtualPool) (arrivals : List Arrival) (next : ℕ) (h : List TimedJdkEvent) (was : AreSound pool arrivals next h) (a : Arrival) (there : slice_get arrivals next ≡ Some a) (r : IsReached pool arrivals next h was a.at) where
  abbrev ev : List JdkEvent
  ev = events_in h

  abbrev idle : List Idle
  idle = idle_after pool h

  abbrev run : ℕ
  run = to_run arrivals ev

  abbrev idle_now : List Idle
  idle_now = map (passed (none_waits ev) a.at) idle

  -- the bound once it was submitted
  abbrev bound2 : ℕ
  bound2 = max a.at (submitted_end arrivals (next + 1)) + submitted_run pool arrivals (next + 1)

  pub takes : HasRun arrivals a
  takes = its-run pool.idle_for pool.wakes arrivals was.load next a there

  -- the number of the job, and why it is new
  pub number : a.id.number ≡ next_number ev a.id.caller
  number = was.load.numbered next a there ∙ ap suc (sym (caller-count a.id.caller h (take next arrivals) was.submissions))

  fresh : is_among a.id (finished ev) ≡ false
  fresh =
      let all = jobs-conserved pool.limits ev was.legal a.id in let none = nowhere a.id _ (next-fresh pool.limits ev a.id was.legal number) in
      not-among a.id (finished ev) (omega (arith, all.sum, none))

  -- what is submitted runs within the bound
  pub wide : was.in_time.bound + a.takes + pool.wakes ≤ bound2
  wide =
      let before = rw there at was.in_time.before in let runs = all-runs pool.idle_for pool.wakes arrivals was.load next a there in
      let wakes : pool.wakes * (next + 1) ≡ pool.wakes * next + pool.wakes = grind arith in let end = last-end pool.idle_for pool.wakes arrivals was.load next a there in
      omega (arith, before, runs, wakes, end)

  -- no run that was submitted need go on after it
  within-ends : (submitted_end arrivals (next + 1) + sum (runs_of (take (next + 1) arrivals)) ≤ bound2) × (a.earliest_end + sum (runs_of (take (next + 1) arrivals)) ≤ bound2)
  within-ends = let end = last-end pool.idle_for pool.wakes arrivals was.load next a there in (omega arith, omega (arith, end))

  pub fits : bound2 + pool.idle_for < 2 ^ 64
  fits = let last : suc next ≡ next + 1 = omega arith in let all = rw last at (was.load.in_time next a there) in omega (arith, all)

  pub long : length idle_now ≡ length idle
  long = length-map idle (passed (none_waits ev) a.at)

  -- the looks, where a job waits
  looks : is_some (front ev) ≡ true → All (λ look. a.at ≤ look) (looks_of idle)
  looks some = go (front ev) some r.looks
    where
      go : (o : Option Id) → is_some o ≡ true → IfSome o (λ id. All (λ look. a.at ≤ look) (looks_of idle)) → All (λ look. a.at ≤ look) (looks_of idle)
      go None some all = absurd (cc some)
      go (Some x) some all = all

  from-now : All (IsFrom a.at run was.in_time.bound) idle_now
  from-now = go (none_waits ev) refl
    where
      go : (b : Bool) → none_waits ev ≡ b → All (IsFrom a.at run was.in_time.bound) (map (passed b a.at) idle)
      go true none = passed-none a.at (last_at h) run was.in_time.bound idle was.in_time.idle
      go false some = passed-some a.at (last_at h) run was.in_time.bound idle (looks (some-front ev some)) was.in_time.idle

  kept-is : kept_size pool.limits ev ≡ kept pool
  kept-is = rw (was.opened.time_out, was.opened.core) refl

  stay-now : staying idle_now ≤ kept pool
  stay-now = go (has_spare pool ev) refl
    where
      go : (b : Bool) → has_spare pool ev ≡ b → staying idle_now ≤ kept pool
      go true spare = let same = passed-stay a.at (none_waits ev) idle (r.ends (inl spare)) in let few = was.staying in omega (arith, same, few)
      go false spare =
          let all = count-few (λ (w : Idle). not (is_some w.end)) idle_now in let few : workers ev ≤ kept_size pool.limits ev = grind (arith, common_steps, spare) in
          let crew = was.crew in let many = long in let size = kept-is in omega (arith, all, few, crew, many, size)

  -- the same looks
  staffed-now : (waiting ev ≡ []) ⊎ (looks_of idle_now ≡ looks_of idle)
  staffed-now = go (none_waits ev) refl
    where
      go : (b : Bool) → none_waits ev ≡ b → (waiting ev ≡ []) ⊎ (looks_of (map (passed b a.at) idle) ≡ looks_of idle)
      go true none = inl (none-front ev none).0
      go false some = inr (passed-looks a.at idle)

  abbrev Before : TimedJdkEvent → Type 0
  Before f = (last_at h ≤ f.at) × (f.at + run ≤ was.in_time.bound)

  abbrev EndsBy : ℕ → ℕ → Id → Type 0
  EndsBy run bound x = earliest_end_of arrivals x + run ≤ bound

  -- the jobs that waited end within the bound
  ends-on : (now : ℕ) → now ≤ run + a.takes → All (EndsBy now bound2) (waiting ev)
  ends-on now less = let room = wide in All-weaker (EndsBy run was.in_time.bound) (EndsBy now bound2) (λ x end. omega (arith, end, room, less)) (waiting ev) was.in_time.ends

  abbrev event_by : JdkReply → TimedJdkEvent
  event_by reply = record { event = Submit a.id reply; at = a.at }

  -- ---- By the answer.

  module _ (reply : JdkReply) (is : next_due pool arrivals h ≡ Some (record { event = Submit a.id reply; at = a.at })) (by_rule : reply ≡ reply_after pool.limits ev) where
    abbrev t : TimedJdkEvent
    t = record { event = Submit a.id reply; at = a.at }

    abbrev ev2 : List JdkEvent
    ev2 = ev ++ Submit a.id reply ∷ []

    abbrev run2 : ℕ
    run2 = to_run arrivals ev2

    abbrev After : TimedJdkEvent → Type 0
    After f = (a.at ≤ f.at) × (f.at + run2 ≤ bound2)

    pub may : IsAllowed pool.limits ev (Submit a.id reply)
    may = (number, by_rule)

    pub own1 : own ev ≡ 0
    own1 = own-none pool arrivals next h was t is (λ x take. cc take)

    own2 : own ev2 ≡ 0
    own2 = rw (just-is false ev (Submit a.id reply)) refl

    -- those that run finish within the bound
    jobs-on : run2 ≤ run + a.takes → All After (finishes arrivals h)
    jobs-on less = let room = wide in all-two (λ f. a.at ≤ f.at) Before After (λ f ahead is. (ahead, omega (arith, is.1, less, room))) (finishes arrivals h) r.jobs was.in_time.jobs

    idle-on : run ≤ run2 → run2 ≤ run + a.takes → All (IsFrom a.at run2 bound2) idle_now
    idle-on more less = let room = wide in All-weaker (IsFrom a.at run was.in_time.bound) (IsFrom a.at run2 bound2) (λ w is. wider-from a.at run run2 was.in_time.bound bound2 w more (omega (arith, less, room)) is) idle_now from-now

    shared : run2 ≤ run + a.takes → ((x : Id) → times x (ids_to_come arrivals (h ++ t ∷ [])) ≡ times x (running ev2)) → length (running ev2) + length (idle_next pool h idle t) + own ev2 ≡ workers ev2
        → staying (idle_next pool h idle t) ≤ kept pool → All (EndsBy run2 bound2) (waiting ev2) → (waiting ev2 ≡ []) ⊎ (1 ≤ length (running ev2) + own ev2 + length (looks_of (idle_next pool h idle t)))
        → All After (finishes arrivals (h ++ t ∷ [])) → All (IsFrom a.at run2 bound2) (idle_next pool h idle t) → IsNext pool arrivals next h was t (next + 1)
    shared less jobs crew stay ends staffed due idlers =
        let spent = was.in_time.spent in let runs = all-runs pool.idle_for pool.wakes arrivals was.load next a there in
        record {
          may = may;
          later = later pool arrivals next h was t is;
          opened = opened-more pool ev (Submit a.id reply) refl refl refl refl refl was.opened;
          submissions = one-submission h t (a.id, a.at) refl ∙ ap (λ (ss : List (Id × ℕ)). ss ++ (a.id, a.at) ∷ []) was.submissions ∙ sym (more pool.idle_for pool.wakes arrivals was.load next a there);
          arrival = then-comes pool.idle_for pool.wakes arrivals was.load next a there;
          jobs = jobs;
          crew = crew;
          stay = stay;
          staffed = staffed;
          bound = bound2;
          fits = fits;
          before = behind (slice_get arrivals (next + 1)) (then-comes pool.idle_for pool.wakes arrivals was.load next a there);
          spent = omega (arith, spent, less, runs);
          ends = ends;
          due = due;
          idlers = idlers;
          now = inr (omega (arith, spent, less, runs));
        }
      where
        behind : (b : Option Arrival) → IfSome b (λ b. a.at ≤ b.at) → IfSome b (λ b. bound2 ≤ max b.at (submitted_end arrivals (next + 1)) + submitted_run pool arrivals (next + 1))
        behind None le = tt
        behind (Some b) le = omega (arith, le)

    -- it doesn't come into the queue
    pub waits-on : left (Submit a.id reply ∷ []) ≡ [] → queued (Submit a.id reply ∷ []) ≡ [] → waiting ev2 ≡ waiting ev
    waits-on none nobody = waits-same pool.limits ev (Submit a.id reply) was.legal may none nobody

    run-on : waiting ev2 ≡ waiting ev → run2 ≡ run
    run-on same = ap (λ (ids : List Id). sum (map (takes_of arrivals) ids)) same

    -- it comes into the queue
    pub waits-more : left (Submit a.id reply ∷ []) ≡ [] → queued (Submit a.id reply ∷ []) ≡ a.id ∷ [] → waiting ev2 ≡ waiting ev ++ a.id ∷ []
    waits-more none own = waiting-more pool.limits ev was.legal (Submit a.id reply) may ∙ rw (none, own) (ap (λ (ids : List Id). ids ++ a.id ∷ []) (all-kept (waiting ev)))

    run-more : waiting ev2 ≡ waiting ev ++ a.id ∷ [] → run2 ≡ run + a.takes
    run-more more =
        ap (λ (ids : List Id). sum (map (takes_of arrivals) ids)) more ∙ ap sum (map-append (takes_of arrivals) (waiting ev) (a.id ∷ []))
        ∙ sum-append (map (takes_of arrivals) (waiting ev)) (takes_of arrivals a.id ∷ []) ∙ ap (λ n. run + (0 + n)) takes.0 ∙ omega arith

    ends-same : waiting ev2 ≡ waiting ev → All (EndsBy run2 bound2) (waiting ev2)
    ends-same same = let on = run-on same in subst (All (EndsBy run2 bound2)) (sym same) (ends-on run2 (omega (arith, on)))

    ends-more : waiting ev2 ≡ waiting ev ++ a.id ∷ [] → All (EndsBy run2 bound2) (waiting ev2)
    ends-more added =
        let grown = run-more added in let spent = was.in_time.spent in let runs = all-runs pool.idle_for pool.wakes arrivals was.load next a there in let its = takes in let end = within-ends in
        subst (All (EndsBy run2 bound2)) (sym added) (All-push (EndsBy run2 bound2) (waiting ev) a.id (ends-on run2 (omega (arith, grown))) (omega (arith, grown, spent, runs, its.1, end.1)))

    -- a worker begins it
    pub begins : begun_id (Submit a.id reply) ≡ Some a.id → finishes arrivals (h ++ t ∷ []) ≡ finishes arrivals h ++ finish_from arrivals a.at a.id ∷ []
    begins first = finishes-begun arrivals h t a.id first refl fresh

    jobs-more : begun_id (Submit a.id reply) ≡ Some a.id → run_at_once (Submit a.id reply ∷ []) ≡ a.id ∷ [] → (x : Id) → times x (ids_to_come arrivals (h ++ t ∷ [])) ≡ times x (running ev2)
    jobs-more first once x =
        let more = ap (λ (fs : List TimedJdkEvent). times x (map (λ f. job_of f.event) fs)) (begins first) ∙ ap (times x) (map-append (λ (f : TimedJdkEvent). job_of f.event) (finishes arrivals h) (finish_from arrivals a.at a.id ∷ []))
        ∙ times-append x (ids_to_come arrivals h) (a.id ∷ []) in
        let one = ap (times x) once in let moved = runs-times pool arrivals next h was t may x in let before = was.jobs x in omega (arith, more, moved, before, one)

    due-more : begun_id (Submit a.id reply) ≡ Some a.id → run2 ≡ run → All After (finishes arrivals (h ++ t ∷ []))
    due-more first same =
        let spent = was.in_time.spent in let runs = all-runs pool.idle_for pool.wakes arrivals was.load next a there in let long_is = takes in let end = within-ends in
        rw (begins first) (All-push After (finishes arrivals h) (finish_from arrivals a.at a.id) (jobs-on (omega (arith, same))) (omega arith, omega (arith, spent, runs, same, long_is.0, long_is.1, end.1)))

    -- no worker begins it now
    jobs-same : begun_id (Submit a.id reply) ≡ None → run_at_once (Submit a.id reply ∷ []) ≡ [] → (x : Id) → times x (ids_to_come arrivals (h ++ t ∷ [])) ≡ times x (running ev2)
    jobs-same first none x =
        let same = ap (λ (fs : List TimedJdkEvent). times x (map (λ f. job_of f.event) fs)) (finishes-same arrivals h t first refl) in
        let nobody = ap (times x) none in let moved = runs-times pool arrivals next h was t may x in let before = was.jobs x in omega (arith, same, moved, before, nobody)

    due-same : begun_id (Submit a.id reply) ≡ None → run2 ≤ run + a.takes → All After (finishes arrivals (h ++ t ∷ []))
    due-same first less = rw (finishes-same arrivals h t first refl) (jobs-on less)

  -- by each answer
  pub submitted-next : (reply : JdkReply) → (is : next_due pool arrivals h ≡ Some (record { event = Submit a.id reply; at = a.at })) → (by_rule : reply ≡ reply_after pool.limits ev)
      → IsNext pool arrivals next h was (record { event = Submit a.id reply; at = a.at }) (next + 1)
  submitted-next Core is by_rule =
      let same = run-on Core is by_rule (waits-on Core is by_rule refl refl) in let n = runs-more pool arrivals next h was (event_by Core) (may Core is by_rule) in let w = workers-more pool arrivals next h was (event_by Core) (may Core is by_rule) in
      let crew = was.crew in let one = own1 Core is by_rule in let two = own2 Core is by_rule in let many = long in
      shared Core is by_rule (omega (arith, same)) (jobs-more Core is by_rule refl refl) (omega (arith, n, w, crew, one, two, many)) stay-now (ends-same Core is by_rule (waits-on Core is by_rule refl refl)) (inr (omega (arith, n)))
      (due-more Core is by_rule refl same) (idle-on Core is by_rule (omega (arith, same)) (omega (arith, same)))
  submitted-next Extra is by_rule =
      let same = run-on Extra is by_rule (waits-on Extra is by_rule refl refl) in let n = runs-more pool arrivals next h was (event_by Extra) (may Extra is by_rule) in let w = workers-more pool arrivals next h was (event_by Extra) (may Extra is by_rule) in
      let crew = was.crew in let one = own1 Extra is by_rule in let two = own2 Extra is by_rule in let many = long in
      shared Extra is by_rule (omega (arith, same)) (jobs-more Extra is by_rule refl refl) (omega (arith, n, w, crew, one, two, many)) stay-now (ends-same Extra is by_rule (waits-on Extra is by_rule refl refl)) (inr (omega (arith, n)))
      (due-more Extra is by_rule refl same) (idle-on Extra is by_rule (omega (arith, same)) (omega (arith, same)))
  submitted-next Handed is by_rule =
      let same = run-on Handed is by_rule (waits-on Handed is by_rule refl refl) in let n = runs-more pool arrivals next h was (event_by Handed) (may Handed is by_rule) in let w = workers-more pool arrivals next h was (event_by Handed) (may Handed is by_rule) in
      let crew = was.crew in let one = own1 Handed is by_rule in let two = own2 Handed is by_rule in let many = long in
      let free : length (running ev) < workers ev = says-after pool.limits ev Handed by_rule in let fewer = length-take-le (length idle_now - 1) idle_now (omega arith) in
      let stay = count-taken-all idle_now in let before = stay-now in
      shared Handed is by_rule (omega (arith, same)) (jobs-more Handed is by_rule refl refl) (omega (arith, n, w, crew, one, two, many, free, fewer)) (omega (arith, stay, before)) (ends-same Handed is by_rule (waits-on Handed is by_rule refl refl)) (inr (omega (arith, n)))
      (due-more Handed is by_rule refl same) (All-take (IsFrom a.at (run2 Handed is by_rule) bound2) (length idle_now - 1) idle_now (idle-on Handed is by_rule (omega (arith, same)) (omega (arith, same))))
    where
      count-taken-all : (xs : List Idle) → staying (take (length xs - 1) xs) ≤ staying xs
      count-taken-all xs = let all = count-taken (λ (w : Idle). not (is_some w.end)) xs (length xs - 1) (length xs) (omega arith) in subst (λ (ys : List Idle). staying (take (length xs - 1) xs) ≤ staying ys) (take_all (length xs) xs (omega arith)) all
  submitted-next First is by_rule =
      let grown = run-more First is by_rule (waits-more First is by_rule refl refl) in let n = runs-more pool arrivals next h was (event_by First) (may First is by_rule) in let w = workers-more pool arrivals next h was (event_by First) (may First is by_rule) in
      let crew = was.crew in let one = own1 First is by_rule in let two = own2 First is by_rule in let many = long in
      let size = length-append idle_now (begun pool a.at ∷ []) in let before = stay-now in
      let split = ap length (filter-append (λ (w : Idle). not (is_some w.end)) idle_now (begun pool a.at ∷ [])) ∙ length-append (filter (λ (w : Idle). not (is_some w.end)) idle_now) [] in
      let seen = ap length (filter_map-append (λ (w : Idle). w.look) idle_now (begun pool a.at ∷ [])) ∙ length-append (looks_of idle_now) ((a.at + pool.wakes) ∷ []) in
      let spent = was.in_time.spent in let runs = all-runs pool.idle_for pool.wakes arrivals was.load next a there in
      let wakes : pool.wakes * (next + 1) ≡ pool.wakes * next + pool.wakes = grind arith in
      shared First is by_rule (omega (arith, grown)) (jobs-same First is by_rule refl refl) (omega (arith, n, w, crew, one, two, many, size)) (omega (arith, split, before)) (ends-more First is by_rule (waits-more First is by_rule refl refl)) (inr (omega (arith, seen)))
      (due-same First is by_rule refl (omega (arith, grown)))
      (All-push (IsFrom a.at (run2 First is by_rule) bound2) idle_now (begun pool a.at) (idle-on First is by_rule (omega (arith, grown)) (omega (arith, grown))) (record { end = omega arith; look = (omega arith, omega (arith, spent, runs, grown, wakes)) }))
  submitted-next Queued is by_rule =
      let grown = run-more Queued is by_rule (waits-more Queued is by_rule refl refl) in let n = runs-more pool arrivals next h was (event_by Queued) (may Queued is by_rule) in let w = workers-more pool arrivals next h was (event_by Queued) (may Queued is by_rule) in
      let crew = was.crew in let one = own1 Queued is by_rule in let two = own2 Queued is by_rule in let many = long in
      let size = wake-length (a.at + pool.wakes) idle_now in let stay = wake-staying (a.at + pool.wakes) idle_now in let before = stay-now in
      let spent = was.in_time.spent in let runs = all-runs pool.idle_for pool.wakes arrivals was.load next a there in
      let wakes : pool.wakes * (next + 1) ≡ pool.wakes * next + pool.wakes = grind arith in
      shared Queued is by_rule (omega (arith, grown)) (jobs-same Queued is by_rule refl refl) (omega (arith, n, w, crew, one, two, many, size)) (omega (arith, stay, before)) (ends-more Queued is by_rule (waits-more Queued is by_rule refl refl))
      (inr (somebody (length (running ev)) (length idle_now) refl refl (omega (arith, crew, many, one, has-worker)) n))
      (due-same Queued is by_rule refl (omega (arith, grown)))
      (wake-all (a.at + pool.wakes) (IsFrom a.at (run2 Queued is by_rule) bound2) (woken-from a.at (run2 Queued is by_rule) bound2 (a.at + pool.wakes) (omega arith) (omega (arith, spent, runs, grown, wakes))) idle_now (idle-on Queued is by_rule (omega (arith, grown)) (omega (arith, grown))))
    where
      has-worker : 1 ≤ workers ev
      has-worker = let none = queued-one (nat_lt (workers ev) pool.limits.core) (nat_lt (length (waiting ev)) pool.limits.queue) (workers ev == 0) ((pool.limits.queue == 0) && nat_lt (length (running ev)) (workers ev)) (nat_lt (workers ev) pool.limits.max) (by_rule ∙ sym (reply-is pool arrivals next h was)) in grind (arith, common_steps, none)

      somebody : (busy free : ℕ) → length (running ev) ≡ busy → length idle_now ≡ free → 1 ≤ length (running ev) + length idle_now → length (running (ev2 Queued is by_rule)) + 0 ≡ length (running ev) + 0 + 0
          → 1 ≤ length (running (ev2 Queued is by_rule)) + own (ev2 Queued is by_rule) + length (looks_of (wake_first (a.at + pool.wakes) idle_now))
      somebody (suc busy) free one other some n = omega (arith, one, n)
      somebody zero free one other some n = let looks = wake-looks (a.at + pool.wakes) idle_now (omega (arith, one, some)) in omega (arith, looks)
  submitted-next Full is by_rule =
      let waits = waits-on Full is by_rule refl refl in let same = run-on Full is by_rule waits in let n = runs-more pool arrivals next h was (event_by Full) (may Full is by_rule) in let w = workers-more pool arrivals next h was (event_by Full) (may Full is by_rule) in
      let crew = was.crew in let one = own1 Full is by_rule in let two = own2 Full is by_rule in let many = long in
      shared Full is by_rule (omega (arith, same)) (jobs-same Full is by_rule refl refl) (omega (arith, n, w, crew, one, two, many)) stay-now (ends-same Full is by_rule waits)
      (elim staffed-now [
        | inl none ↦ inl (waits ∙ none)
        | inr looks ↦ (elim was.staffed [ inl none ↦ inl (waits ∙ none) | inr some ↦ (let seen = ap length looks in inr (omega (arith, some, seen, n, one))) ])
      ])
      (due-same Full is by_rule refl (omega (arith, same))) (idle-on Full is by_rule (omega (arith, same)) (omega (arith, same)))
  submitted-next Closed is by_rule = absurd (not-closed (nat_lt (workers ev) pool.limits.core) (nat_lt (length (waiting ev)) pool.limits.queue) (workers ev == 0) ((pool.limits.queue == 0) && nat_lt (length (running ev)) (workers ev)) (nat_lt (workers ev) pool.limits.max) (by_rule ∙ sym (reply-is pool arrivals next h was)))

  pub submitted-sound : (reply : JdkReply) → next_due pool arrivals h ≡ Some (record { event = Submit a.id reply; at = a.at }) → reply ≡ reply_after pool.limits ev → AreSound pool arrivals (next + 1) (h ++ record { event = Submit a.id reply; at = a.at } ∷ [])
  submitted-sound reply is by_rule = pushed pool arrivals next h was (record { event = Submit a.id reply; at = a.at }) (next + 1) is (submitted-next reply is by_rule)
