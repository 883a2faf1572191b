-- The parts of a pool after each event.
use Rattle.resil_virtual.proofs.Words.{inl, inr, ◌⊎◌, ◌≡◌, ◌≤◌, ◌<◌, ◌+◌, ◌-◌, ◌*◌, ◌^◌, ◌==◌, ◌∷◌, [], ◌++◌, ◌∙◌, ℕ, Bool, true, false, if◌then◌else◌, All, List, Option, Some, None, drop, filter, length, map, option_map, option_to_list, slice_get, take, refl, sym, ap, subst, arith, append_assoc, append-nil, length-append, list_any, drop-map, length-map, map-append, All-cons, All-drop, All-nil, All-push, slice_get-map, slice_get_within, IfSome, option_map_or, is_among, times, Id, same-length, reply_after, is_begin, is_end, run_at_once, running, waiting, workers, JdkReply, Core, First, Queued, Handed, Extra, Full, Closed, JdkEvent, Submit, Take, Finish, IdleEnd, workers-within_opening, events_in, TimedJdkEvent, earliest, earliest_end_of, end_at, end_from, ends_at, ends_due, ends_of, fallen, finish_from, finishes, front, has_spare, idle_after, idle_by, idle_next, is_finish, just_finished, last_at, looks_at, looks_due, looks_of, next_due, none_waits, own_takes, passed, sooner, submission, submissions_at, submissions_due, take_at, takes_of, without_first, without_taker, IsSoonest, SameJobs, begun_at, id_of, Arrival, RunningJob, Idle, VirtualPool}
use Rattle.resil_jdk.specs.RuleView.{begins}
use Rattle.resil_virtual.specs.Pool.{AreInOrder, AreParts, AreRunning, HasRun, finish_at, ids_to_come, job_of, left, reply_by, to_queue, to_worker}
use Rattle.resil_virtual.proofs.FirstLaws.{among, earliest-append, sooner-one}
use Rattle.resil_virtual.proofs.RunningLaws.{first-running, running-less, running-many, running-more}
use Rattle.resil_virtual.proofs.HistoryLaws.{events-are, finishes-done, finishes-same, idle-pushed, last-is}
use Rattle.resil_virtual.proofs.ListLaws.{all-at}
use Rattle.resil_virtual.proofs.CauseLaws.{IsReached, at_of, cause, jobs-are, reached, within-bound}
use Rattle.resil_virtual.proofs.LoadLaws.{all-runs}
use Rattle.resil_virtual.proofs.FinishLaws.{just-is}
use Rattle.resil_virtual.proofs.FinishLaws as done
use Rattle.resil_virtual.proofs.TakeLaws as taken
use Rattle.resil_virtual.proofs.EndLaws as ended
use Rattle.resil_virtual.proofs.SubmitLaws as submitted
use Rattle.resil_virtual.proofs.SoundLaws.{runs-more, workers-more}

abbrev reply-of : JdkEvent → JdkReply
reply-of (Submit id answer) = answer
reply-of _ = Full

module _ (pool : VirtualPool) (arrivals : List Arrival) (next workers_now now : ℕ) (own_look : Bool) (steps : ℕ) (queue : List Arrival) (jobs : List RunningJob) (idle : List Idle) (h : List TimedJdkEvent)
    (was : AreParts pool arrivals next workers_now now own_look steps queue jobs idle h) where
  abbrev ev : List JdkEvent
  ev = events_in h

  -- ---- What is due.

  waits-are : length queue ≡ length (waiting ev)
  waits-are = sym (length-map queue (λ (job : Arrival). job.id)) ∙ ap length was.queue_is

  pub none-is : (length queue == 0) ≡ none_waits ev
  none-is = ap (λ n. n == 0) waits-are

  jobs-many : length jobs ≡ length (running ev)
  jobs-many =
      running-many arrivals steps jobs h was.jobs_are ∙ sym (length-map (finishes arrivals h) (λ (f : TimedJdkEvent). job_of f.event)) ∙ same-length (ids_to_come arrivals h) (running ev) was.sound.jobs

  -- the answer to the next submission
  pub reply-now : reply_by pool.limits workers_now (length queue) (length jobs) ≡ reply_after pool.limits ev
  reply-now =
      ap (λ n. reply_by pool.limits n (length queue) (length jobs)) was.workers_are ∙ ap (λ n. reply_by pool.limits (workers ev) n (length jobs)) waits-are
      ∙ ap (reply_by pool.limits (workers ev) (length (waiting ev))) jobs-many ∙ submitted.reply-is pool arrivals next h was.sound

  -- the submission that comes next
  pub job-due : (o : Option Arrival) → o ≡ slice_get arrivals next → option_map (submission pool.limits ev) o ≡ earliest at_of (submissions_due pool arrivals h)
  job-due o is = ap (option_map (submission pool.limits ev)) is ∙ sym (ap (earliest at_of) (jobs-are pool arrivals next h was.sound) ∙ one (option_map (submission pool.limits ev) (slice_get arrivals next)))
    where
      one : (o : Option TimedJdkEvent) → earliest at_of (option_to_list o) ≡ o
      one None = refl
      one (Some t) = refl

  -- the first of all
  pub due-is : next_due pool arrivals h ≡ sooner at_of (earliest at_of (own_takes h)) (sooner at_of (earliest at_of (finishes arrivals h))
      (sooner at_of (earliest at_of (looks_due h idle)) (sooner at_of (earliest at_of (submissions_due pool arrivals h)) (earliest at_of (ends_due pool h idle)))))
  due-is =
      ap (λ (w : List Idle). earliest at_of (own_takes h ++ finishes arrivals h ++ looks_due h w ++ submissions_due pool arrivals h ++ ends_due pool h w)) (sym was.idle_are)
      ∙ ap (earliest at_of) (append_assoc (own_takes h ++ finishes arrivals h ++ looks_due h idle) (submissions_due pool arrivals h) (ends_due pool h idle)
      ∙ append_assoc (own_takes h ++ finishes arrivals h) (looks_due h idle) (submissions_due pool arrivals h ++ ends_due pool h idle)
      ∙ append_assoc (own_takes h) (finishes arrivals h) (looks_due h idle ++ (submissions_due pool arrivals h ++ ends_due pool h idle)))
      ∙ earliest-append at_of (own_takes h) (finishes arrivals h ++ (looks_due h idle ++ (submissions_due pool arrivals h ++ ends_due pool h idle)))
      ∙ ap (sooner at_of (earliest at_of (own_takes h))) (earliest-append at_of (finishes arrivals h) (looks_due h idle ++ (submissions_due pool arrivals h ++ ends_due pool h idle))
      ∙ ap (sooner at_of (earliest at_of (finishes arrivals h))) (earliest-append at_of (looks_due h idle) (submissions_due pool arrivals h ++ ends_due pool h idle)
      ∙ ap (sooner at_of (earliest at_of (looks_due h idle))) (earliest-append at_of (submissions_due pool arrivals h) (ends_due pool h idle))))

  -- an event of no other kind is an end
  pub else-end : (t : TimedJdkEvent) → next_due pool arrivals h ≡ Some t → ((id : Id) (reply : JdkReply) → t.event ≡ Submit id reply → ⊥) → ((id : Id) → t.event ≡ Take id → ⊥) → ((id : Id) → t.event ≡ Finish id → ⊥)
      → next_due pool arrivals h ≡ Some (end_at t.at)
  else-end t is no_submission no_take no_finish = elim (cause pool arrivals next h was.sound t is) [
    | inl take ↦ absurd (no_take take.id take.takes)
    | inr rest ↦ (elim rest [
      | inl finish ↦ absurd (no_finish finish.id finish.finishes)
      | inr rest ↦ (elim rest [
        | inl job ↦ absurd (no_submission job.job.id (reply_after pool.limits ev) (ap (λ (timed : TimedJdkEvent). timed.event) job.is))
        | inr end ↦ is ∙ ap (λ (e : JdkEvent). Some (record { event = e; at = t.at })) end.ends
      ])
    ])
  ]

  -- ---- A take.

  module _ (id : Id) (at : ℕ) (is : next_due pool arrivals h ≡ Some (take_at id at)) where
    abbrev t : TimedJdkEvent
    t = take_at id at

    take-cause : (front ev ≡ Some id) × ((just_finished ev ≡ true) ⊎ (list_any (looks_at at) (idle_after pool h) ≡ true) ⊎ (list_any (ends_at at) (idle_after pool h) ≡ true))
    take-cause = elim (cause pool arrivals next h was.sound t is) [
      | inl take ↦ (let same : id ≡ take.id = cc take.takes in (take.waits ∙ ap Some (sym same), take.taker))
      | inr rest ↦ (elim rest [
        | inl finish ↦ absurd (cc finish.finishes)
        | inr rest ↦ (elim rest [ inl job ↦ absurd (cc (ap (λ (timed : TimedJdkEvent). timed.event) job.is)) | inr end ↦ absurd (cc end.ends) ])
      ])
    ]

    -- a job waits: the front of the queue
    pub front-job : (job : Arrival) → slice_get queue 0 ≡ Some job → (job.id ≡ id) × (takes_of arrivals id ≡ job.takes) × (earliest_end_of arrivals id ≡ job.earliest_end)
    front-job job there =
        let first = sym (slice_get-map (λ (job : Arrival). job.id) queue 0 ∙ ap (option_map (λ (job : Arrival). job.id)) there) ∙ ap (λ (ids : List Id). slice_get ids 0) was.queue_is ∙ take-cause.0 in
        let same : job.id ≡ id = cc first in
        let its = all-at (HasRun arrivals) queue 0 job there was.runs_are in
        (same, ap (takes_of arrivals) (sym same) ∙ its.0, ap (earliest_end_of arrivals) (sym same) ∙ its.1)

    pub front-some : slice_get queue 0 ≡ None → ⊥
    front-some none =
        let first = sym (slice_get-map (λ (job : Arrival). job.id) queue 0 ∙ ap (option_map (λ (job : Arrival). job.id)) none) ∙ ap (λ (ids : List Id). slice_get ids 0) was.queue_is ∙ take-cause.0 in
        cc first

    pub take-fits : (job : Arrival) → slice_get queue 0 ≡ Some job → at + job.takes < 2 ^ 64
    take-fits job there =
        let within = within-bound pool arrivals next h was.sound t is id take-cause.0 in let run = taken.run2 pool arrivals next h was.sound id at is take-cause.0 take-cause.1 (reached pool arrivals next h was.sound t is) in
        let takes = (front-job job there).1 in let fits = was.sound.in_time.fits in omega (arith, within, run, takes, fits)

    pub taken-parts : (job : Arrival) → slice_get queue 0 ≡ Some job → (jobs2 : List RunningJob) → SameJobs (begun_at at steps job ∷ jobs) jobs2
        → AreParts pool arrivals next workers_now at false (steps + 1) (drop 1 queue) jobs2 (without_taker own_look at (map (passed false at) idle)) (h ++ t ∷ [])
    taken-parts job there jobs2 more =
        let r = reached pool arrivals next h was.sound t is in let c = take-cause in let j = front-job job there in
        let w = workers-more pool arrivals next h was.sound t (taken.may pool arrivals next h was.sound id at is c.0 c.1 r) in let before = was.workers_are in
        record {
          sound = taken.taken-sound pool arrivals next h was.sound id at is c.0 c.1 r;
          workers_are = rw (events-are h t) (omega (arith, w, before));
          now_is = sym (last-is h t);
          own_is = rw (events-are h t) (sym (just-is false ev (Take id)));
          queue_is = rw (events-are h t) (sym (drop-map (λ (job : Arrival). job.id) 1 queue) ∙ ap (drop 1) was.queue_is ∙ sym (taken.waits2 pool arrivals next h was.sound id at is c.0 c.1 r));
          runs_are = All-drop (HasRun arrivals) 1 queue was.runs_are;
          jobs_are = running-more arrivals steps jobs h was.jobs_are (begun_at at steps job ∷ []) jobs2 (h ++ t ∷ []) (omega arith, omega arith) more
              (taken.begun pool arrivals next h was.sound id at is c.0 c.1 r ∙ ap (λ (f : TimedJdkEvent). finishes arrivals h ++ f ∷ []) (rw (j.0, j.1, j.2) refl));
          idle_are = ap (λ (b : Bool). without_taker b at (map (passed false at) idle)) was.own_is ∙ ap (λ (w : List Idle). without_taker (just_finished ev) at (map (passed false at) w)) was.idle_are
              ∙ sym (taken.same-idle pool arrivals next h was.sound id at is c.0 c.1 r) ∙ sym (idle-pushed pool h t);
        }

    pub taken-left : left pool arrivals next (h ++ t ∷ []) < left pool arrivals next h
    taken-left =
        let r = reached pool arrivals next h was.sound t is in let c = take-cause in let one = taken.one-less pool arrivals next h was.sound id at is c.0 c.1 r in
        let n = runs-more pool arrivals next h was.sound t (taken.may pool arrivals next h was.sound id at is c.0 c.1 r) in
        let waits = ap length (taken.waits2 pool arrivals next h was.sound id at is c.0 c.1 r) in let fewer = fewer-left (waiting ev) id c.0 in
        let same = ap length (idle-pushed pool h t ∙ taken.same-idle pool arrivals next h was.sound id at is c.0 c.1 r) in let most = own-most (just_finished ev) (none_waits ev) in
        rw (events-are h t) (omega (arith, one, n, waits, fewer, same, most))
      where
        fewer-left : (ids : List Id) (id : Id) → slice_get ids 0 ≡ Some id → length (drop 1 ids) + 1 ≡ length ids
        fewer-left [] id is = absurd (cc is)
        fewer-left (x ∷ ids) id is = omega arith

        own-most : (a b : Bool) → (if a then (if b then 0 else 1) else 0) ≤ 1
        own-most true true = omega arith
        own-most true false = omega arith
        own-most false b = omega arith

  -- ---- A finish.

  module _ (id : Id) (at : ℕ) (is : next_due pool arrivals h ≡ Some (record { event = Finish id; at = at })) where
    abbrev f : TimedJdkEvent
    f = record { event = Finish id; at = at }

    finish-cause : is_among id (ids_to_come arrivals h) ≡ true
    finish-cause = elim (cause pool arrivals next h was.sound f is) [
      | inl take ↦ absurd (cc take.takes)
      | inr rest ↦ (elim rest [
        | inl finish ↦ (let same : id ≡ finish.id = cc finish.finishes in ap (λ (x : Id). is_among x (ids_to_come arrivals h)) same ∙ finish.runs)
        | inr rest ↦ (elim rest [ inl job ↦ absurd (cc (ap (λ (timed : TimedJdkEvent). timed.event) job.is)) | inr end ↦ absurd (cc end.ends) ])
      ])
    ]

    abbrev IsPlain : TimedJdkEvent → Type 0
    IsPlain t = is_finish t.event ≡ false

    plain-map : (g : ℕ → TimedJdkEvent) → ((n : ℕ) → is_finish (g n).event ≡ false) → (ns : List ℕ) → All IsPlain (map g ns)
    plain-map g plain [] = All-nil IsPlain
    plain-map g plain (n ∷ ns) = All-cons IsPlain (g n) (map g ns) (plain n) (plain-map g plain ns)

    plain-own : (b : Bool) (o : Option Id) → All IsPlain (if b then option_to_list (option_map (λ id. take_at id (last_at h)) o) else [])
    plain-own true None = All-nil IsPlain
    plain-own true (Some x) = All-cons IsPlain (take_at x (last_at h)) [] refl (All-nil IsPlain)
    plain-own false o = All-nil IsPlain

    plain-looks : (o : Option Id) → All IsPlain (option_map_or (λ id. map (take_at id) (looks_of idle)) o [])
    plain-looks None = All-nil IsPlain
    plain-looks (Some x) = plain-map (take_at x) (λ n. refl) (looks_of idle)

    plain-job : (o : Option Arrival) → All IsPlain (option_to_list (option_map (submission pool.limits ev) o))
    plain-job None = All-nil IsPlain
    plain-job (Some a) = All-cons IsPlain (submission pool.limits ev a) [] refl (All-nil IsPlain)

    plain-ends : (o : Option Id) (b : Bool) → All IsPlain (option_map_or (λ id. map (take_at id) (ends_of idle)) o (if b then map end_at (ends_of idle) else []))
    plain-ends None true = plain-map end_at (λ n. refl) (ends_of idle)
    plain-ends None false = All-nil IsPlain
    plain-ends (Some x) b = plain-map (take_at x) (λ n. refl) (ends_of idle)

    not-plain : (ts : List TimedJdkEvent) → All IsPlain ts → earliest at_of ts ≡ Some f → ⊥
    not-plain ts all first = cc (among at_of IsPlain ts all f first)

    abbrev first_look : Option TimedJdkEvent
    first_look = earliest at_of (looks_due h idle)

    abbrev first_job : Option TimedJdkEvent
    first_job = earliest at_of (submissions_due pool arrivals h)

    abbrev first_end : Option TimedJdkEvent
    first_end = earliest at_of (ends_due pool h idle)

    -- it is the first finish
    finish-first : earliest at_of (finishes arrivals h) ≡ Some f
    finish-first = elim (sooner-one at_of (earliest at_of (own_takes h)) (sooner at_of (earliest at_of (finishes arrivals h)) (sooner at_of first_look (sooner at_of first_job first_end))) f (sym due-is ∙ is)) [
      | inl first ↦ absurd (not-plain (own_takes h) (plain-own (just_finished ev) (front ev)) first)
      | inr rest ↦ (elim (sooner-one at_of (earliest at_of (finishes arrivals h)) (sooner at_of first_look (sooner at_of first_job first_end)) f rest) [
        | inl first ↦ first
        | inr rest ↦ (elim (sooner-one at_of first_look (sooner at_of first_job first_end) f rest) [
          | inl first ↦ absurd (not-plain (looks_due h idle) (plain-looks (front ev)) first)
          | inr rest ↦ (elim (sooner-one at_of first_job first_end f rest) [
            | inl first ↦ absurd (not-plain (submissions_due pool arrivals h) (plain-job (slice_get arrivals (length (submissions_at h)))) first)
            | inr first ↦ absurd (not-plain (ends_due pool h idle) (plain-ends (front ev) (has_spare pool ev)) first)
          ])
        ])
      ])
    ]

    -- the jobs without the one that is finished
    finished-jobs : (o : Option RunningJob) (jobs2 : List RunningJob) → IsSoonest o jobs → IfSome o (λ job. SameJobs (job ∷ jobs2) jobs) → AreRunning arrivals (steps + 1) jobs2 (h ++ f ∷ [])
    finished-jobs None jobs2 soon same = absurd (cc (first-running arrivals steps jobs h was.jobs_are None soon ∙ finish-first))
    finished-jobs (Some x) jobs2 soon same =
        let first : finish_at x ≡ f = cc (first-running arrivals steps jobs h was.jobs_are (Some x) soon ∙ finish-first) in
        let most = done.once pool arrivals next h was.sound id at is finish-cause (reached pool arrivals next h was.sound f is) in let before = was.sound.jobs id in
        let ids = ap (times id) (ap (map (λ (f : TimedJdkEvent). job_of f.event)) (sym was.jobs_are.finishes_are) ∙ ids-are was.jobs_are.begun) in
        running-less arrivals steps jobs h was.jobs_are id x jobs2 (h ++ f ∷ []) (ap (λ (t : TimedJdkEvent). job_of t.event) first) same (omega (arith, most, before, ids)) (finishes-done arrivals h f id refl refl)
      where
        ids-are : (xs : List RunningJob) → map (λ f. job_of f.event) (map finish_at xs) ≡ map id_of xs
        ids-are [] = refl
        ids-are (x ∷ xs) = ap (λ (ids : List Id). id_of x ∷ ids) (ids-are xs)

    pub finish-fits : at + pool.idle_for < 2 ^ 64
    finish-fits =
        let within = done.in-time pool arrivals next h was.sound id at is finish-cause (reached pool arrivals next h was.sound f is) in let fits = was.sound.in_time.fits in omega (arith, within, fits)

    pub finished-parts : (o : Option RunningJob) (jobs2 : List RunningJob) → IsSoonest o jobs → IfSome o (λ job. SameJobs (job ∷ jobs2) jobs) → (idle2 : List Idle) → idle2 ≡ idle_next pool h idle f
        → AreParts pool arrivals next workers_now at true (steps + 1) queue jobs2 idle2 (h ++ f ∷ [])
    finished-parts o jobs2 soon rest idle2 same =
        let r = reached pool arrivals next h was.sound f is in let c = finish-cause in let n = done.counts pool arrivals next h was.sound id at is c r in
        record {
          sound = done.finished-sound pool arrivals next h was.sound id at is c r;
          workers_are = rw (events-are h f) (was.workers_are ∙ sym n.1);
          now_is = sym (last-is h f);
          own_is = rw (events-are h f) (sym (just-is false ev (Finish id)));
          queue_is = rw (events-are h f) (was.queue_is ∙ sym (done.waits pool arrivals next h was.sound id at is c r));
          runs_are = was.runs_are;
          jobs_are = finished-jobs o jobs2 soon rest;
          idle_are = same ∙ ap (λ (w : List Idle). idle_next pool h w f) was.idle_are ∙ sym (idle-pushed pool h f);
        }

    pub finished-left : left pool arrivals next (h ++ f ∷ []) < left pool arrivals next h
    finished-left =
        let r = reached pool arrivals next h was.sound f is in let c = finish-cause in let n = done.counts pool arrivals next h was.sound id at is c r in
        let waits = ap length (done.waits pool arrivals next h was.sound id at is c r) in let crew = was.sound.crew in
        let later = rw (events-are h f) at (done.finished-sound pool arrivals next h was.sound id at is c r).crew in
        let free = done.own1 pool arrivals next h was.sound id at is c r in
        rw (events-are h f) (omega (arith, n.0, n.1, waits, crew, later, free))

  -- who is idle after it
  module _ (id : Id) (at : ℕ) (none : Bool) where
    pub fallen-is : (end : Option ℕ) → none ≡ none_waits ev → none ≡ true → end ≡ end_from pool ev at → map (passed none at) idle ++ fallen end ∷ [] ≡ idle_next pool h idle (record { event = Finish id; at = at })
    fallen-is end same is ends = let nobody : none_waits ev ≡ true = sym same ∙ is in rw (is, nobody, ends) refl

    pub busy-is : none ≡ none_waits ev → none ≡ false → map (passed none at) idle ≡ idle_next pool h idle (record { event = Finish id; at = at })
    busy-is same is = let somebody : none_waits ev ≡ false = sym same ∙ is in rw (is, somebody) refl

  -- ---- An end.

  module _ (at : ℕ) (is : next_due pool arrivals h ≡ Some (end_at at)) where
    abbrev e : TimedJdkEvent
    e = end_at at

    end-cause : (front ev ≡ None) × (has_spare pool ev ≡ true) × (list_any (ends_at at) (idle_after pool h) ≡ true)
    end-cause = elim (cause pool arrivals next h was.sound e is) [
      | inl take ↦ absurd (cc take.takes)
      | inr rest ↦ (elim rest [
        | inl finish ↦ absurd (cc finish.finishes)
        | inr rest ↦ (elim rest [ inl job ↦ absurd (cc (ap (λ (timed : TimedJdkEvent). timed.event) job.is)) | inr end ↦ (end.none, end.spare, end.worker) ])
      ])
    ]

    end-counts : (workers (ev ++ IdleEnd ∷ []) + 1 ≡ workers ev) × (length (running (ev ++ IdleEnd ∷ [])) ≡ length (running ev))
    end-counts =
        let r = reached pool arrivals next h was.sound e is in let c = end-cause in let may = ended.may pool arrivals next h was.sound at is c.0 c.1 c.2 r in
        let w = workers-more pool arrivals next h was.sound e may in let n = runs-more pool arrivals next h was.sound e may in (omega (arith, w), omega (arith, n))

    pub some-worker : 1 ≤ workers_now
    some-worker = let w = end-counts.0 in let before = was.workers_are in omega (arith, w, before)

    pub ended-parts : AreParts pool arrivals next (workers_now - 1) at false (steps + 1) queue jobs (without_first (ends_at at) (map (passed true at) idle)) (h ++ e ∷ [])
    ended-parts =
        let r = reached pool arrivals next h was.sound e is in let c = end-cause in let w = end-counts.0 in let before = was.workers_are in
        record {
          sound = ended.ended-sound pool arrivals next h was.sound at is c.0 c.1 c.2 r;
          workers_are = rw (events-are h e) (omega (arith, w, before));
          now_is = sym (last-is h e);
          own_is = rw (events-are h e) (sym (just-is false ev IdleEnd));
          queue_is = rw (events-are h e) (was.queue_is ∙ sym (ended.waits2 pool arrivals next h was.sound at is c.0 c.1 c.2 r));
          runs_are = was.runs_are;
          jobs_are = running-more arrivals steps jobs h was.jobs_are [] jobs (h ++ e ∷ []) (omega arith) (λ of_job. refl) (finishes-same arrivals h e refl refl ∙ sym (append-nil (finishes arrivals h)));
          idle_are = ap (λ (w : List Idle). without_first (ends_at at) (map (passed true at) w)) was.idle_are ∙ sym (ended.same-idle pool arrivals next h was.sound at is c.0 c.1 c.2 r) ∙ sym (idle-pushed pool h e);
        }

    pub ended-left : left pool arrivals next (h ++ e ∷ []) < left pool arrivals next h
    ended-left =
        let r = reached pool arrivals next h was.sound e is in let c = end-cause in let n = end-counts in
        let waits = ap length (ended.waits2 pool arrivals next h was.sound at is c.0 c.1 c.2 r) in let one = ended.one-less pool arrivals next h was.sound at is c.0 c.1 c.2 r in
        let same = ap length (idle-pushed pool h e ∙ ended.same-idle pool arrivals next h was.sound at is c.0 c.1 c.2 r) in
        rw (events-are h e) (omega (arith, n.1, waits, one, same))

  -- ---- A submission.

  -- who is idle after it
  pub placed-is : (a : Arrival) (reply : JdkReply)
      → idle_by pool [] (map (passed (none_waits ev) a.at) idle) (Submit a.id reply) a.at ≡ idle_next pool h idle (record { event = Submit a.id reply; at = a.at })
  placed-is a Core = refl
  placed-is a First = refl
  placed-is a Queued = refl
  placed-is a Handed = refl
  placed-is a Extra = refl
  placed-is a Full = refl
  placed-is a Closed = refl

  module _ (id : Id) (reply : JdkReply) (at : ℕ) (is : next_due pool arrivals h ≡ Some (record { event = Submit id reply; at = at })) where
    submit-cause : (job : Arrival) × (slice_get arrivals next ≡ Some job) × (record { event = Submit id reply; at = at } ≡ submission pool.limits ev job)
    submit-cause = elim (cause pool arrivals next h was.sound (record { event = Submit id reply; at = at }) is) [
      | inl take ↦ absurd (cc take.takes)
      | inr rest ↦ (elim rest [
        | inl finish ↦ absurd (cc finish.finishes)
        | inr rest ↦ (elim rest [ inl job ↦ (job.job, job.comes, job.is) | inr end ↦ absurd (cc end.ends) ])
      ])
    ]

    pub job-some : slice_get arrivals next ≡ None → ⊥
    job-some none = cc (sym none ∙ submit-cause.1)

    pub submit-due : (job : Arrival) → slice_get arrivals next ≡ Some job → next_due pool arrivals h ≡ Some (record { event = Submit job.id reply; at = job.at })
    submit-due job there =
        let c = submit-cause in let same : c.0 ≡ job = cc (sym c.1 ∙ there) in let answer = ap (λ (timed : TimedJdkEvent). reply-of timed.event) c.2 in
        is ∙ ap Some c.2 ∙ ap (λ (r : JdkReply). Some (record { event = Submit c.0.id r; at = c.0.at })) (sym answer) ∙ ap (λ (j : Arrival). Some (record { event = Submit j.id reply; at = j.at })) same

  module _ (a : Arrival) (there : slice_get arrivals next ≡ Some a) (reply : JdkReply) (is : next_due pool arrivals h ≡ Some (record { event = Submit a.id reply; at = a.at })) where
    abbrev s : TimedJdkEvent
    s = record { event = Submit a.id reply; at = a.at }

    by-rule : reply ≡ reply_after pool.limits ev
    by-rule = elim (cause pool arrivals next h was.sound s is) [
      | inl take ↦ absurd (cc take.takes)
      | inr rest ↦ (elim rest [
        | inl finish ↦ absurd (cc finish.finishes)
        | inr rest ↦ (elim rest [ inl job ↦ ap (λ (timed : TimedJdkEvent). reply-of timed.event) job.is | inr end ↦ absurd (cc end.ends) ])
      ])
    ]

    at-once : IsReached pool arrivals next h was.sound a.at
    at-once = reached pool arrivals next h was.sound s is

    pub submit-fits : (a.at + a.takes < 2 ^ 64) × (a.at + pool.wakes + pool.idle_for < 2 ^ 64)
    submit-fits =
        let wide = submitted.wide pool arrivals next h was.sound a there at-once in let fits = submitted.fits pool arrivals next h was.sound a there at-once in
        let runs = all-runs pool.idle_for pool.wakes arrivals was.sound.load next a there in let wakes : pool.wakes * (next + 1) ≡ pool.wakes * next + pool.wakes = grind arith in
        (omega (arith, wide, fits, runs, wakes), omega (arith, wide, fits, runs, wakes))

    pub submit-room : workers_now + 1 < 2 ^ 32
    submit-room = let most = workers-within_opening pool.limits ev was.sound.sizes was.sound.legal in let size = was.sound.sizes.max in let before = was.workers_are in omega (arith, most, size.2, before)

    begins-is : (reply : JdkReply) → (length (filter is_begin (Submit a.id reply ∷ [])) ≡ begins reply) × (length (filter is_end (Submit a.id reply ∷ [])) ≡ 0)
    begins-is Core = (refl, refl)
    begins-is First = (refl, refl)
    begins-is Queued = (refl, refl)
    begins-is Handed = (refl, refl)
    begins-is Extra = (refl, refl)
    begins-is Full = (refl, refl)
    begins-is Closed = (refl, refl)

    queued-are : (reply : JdkReply) (is : next_due pool arrivals h ≡ Some (record { event = Submit a.id reply; at = a.at })) → reply ≡ reply_after pool.limits ev → waiting (ev ++ Submit a.id reply ∷ []) ≡ waiting ev ++ map (λ (job : Arrival). job.id) (to_queue reply a)
    queued-are First is by = submitted.waits-more pool arrivals next h was.sound a there at-once First is by refl refl
    queued-are Queued is by = submitted.waits-more pool arrivals next h was.sound a there at-once Queued is by refl refl
    queued-are Core is by = submitted.waits-on pool arrivals next h was.sound a there at-once Core is by refl refl ∙ sym (append-nil (waiting ev))
    queued-are Handed is by = submitted.waits-on pool arrivals next h was.sound a there at-once Handed is by refl refl ∙ sym (append-nil (waiting ev))
    queued-are Extra is by = submitted.waits-on pool arrivals next h was.sound a there at-once Extra is by refl refl ∙ sym (append-nil (waiting ev))
    queued-are Full is by = submitted.waits-on pool arrivals next h was.sound a there at-once Full is by refl refl ∙ sym (append-nil (waiting ev))
    queued-are Closed is by = submitted.waits-on pool arrivals next h was.sound a there at-once Closed is by refl refl ∙ sym (append-nil (waiting ev))

    its-finish : finishes arrivals h ++ finish_from arrivals a.at a.id ∷ [] ≡ finishes arrivals h ++ finish_at (begun_at a.at steps a) ∷ []
    its-finish = let its = submitted.takes pool arrivals next h was.sound a there at-once in rw (its.0, its.1) refl

    worked-are : (reply : JdkReply) (is : next_due pool arrivals h ≡ Some (record { event = Submit a.id reply; at = a.at })) → reply ≡ reply_after pool.limits ev
        → finishes arrivals (h ++ record { event = Submit a.id reply; at = a.at } ∷ []) ≡ finishes arrivals h ++ map finish_at (to_worker steps reply a)
    worked-are Core is by = submitted.begins pool arrivals next h was.sound a there at-once Core is by refl ∙ its-finish
    worked-are Handed is by = submitted.begins pool arrivals next h was.sound a there at-once Handed is by refl ∙ its-finish
    worked-are Extra is by = submitted.begins pool arrivals next h was.sound a there at-once Extra is by refl ∙ its-finish
    worked-are First is by = finishes-same arrivals h _ refl refl ∙ sym (append-nil (finishes arrivals h))
    worked-are Queued is by = finishes-same arrivals h _ refl refl ∙ sym (append-nil (finishes arrivals h))
    worked-are Full is by = finishes-same arrivals h _ refl refl ∙ sym (append-nil (finishes arrivals h))
    worked-are Closed is by = finishes-same arrivals h _ refl refl ∙ sym (append-nil (finishes arrivals h))

    ordered-worker : (reply : JdkReply) → AreInOrder steps (steps + 1) (to_worker steps reply a)
    ordered-worker Core = (omega arith, omega arith)
    ordered-worker Handed = (omega arith, omega arith)
    ordered-worker Extra = (omega arith, omega arith)
    ordered-worker First = omega arith
    ordered-worker Queued = omega arith
    ordered-worker Full = omega arith
    ordered-worker Closed = omega arith

    takes-its : (reply : JdkReply) → All (HasRun arrivals) queue → All (HasRun arrivals) (queue ++ to_queue reply a)
    takes-its First all = All-push (HasRun arrivals) queue a all (submitted.takes pool arrivals next h was.sound a there at-once)
    takes-its Queued all = All-push (HasRun arrivals) queue a all (submitted.takes pool arrivals next h was.sound a there at-once)
    takes-its Core all = subst (All (HasRun arrivals)) (sym (append-nil queue)) all
    takes-its Handed all = subst (All (HasRun arrivals)) (sym (append-nil queue)) all
    takes-its Extra all = subst (All (HasRun arrivals)) (sym (append-nil queue)) all
    takes-its Full all = subst (All (HasRun arrivals)) (sym (append-nil queue)) all
    takes-its Closed all = subst (All (HasRun arrivals)) (sym (append-nil queue)) all

    pub submitted-parts : (jobs2 : List RunningJob) → SameJobs (to_worker steps reply a ++ jobs) jobs2 → (idle2 : List Idle) → idle2 ≡ idle_next pool h idle s
        → AreParts pool arrivals (next + 1) (workers_now + begins reply) a.at false (steps + 1) (queue ++ to_queue reply a) jobs2 idle2 (h ++ s ∷ [])
    submitted-parts jobs2 more idle2 same =
        let w = workers-more pool arrivals next h was.sound s (submitted.may pool arrivals next h was.sound a there at-once reply is by-rule) in let b = begins-is reply in let before = was.workers_are in
        record {
          sound = submitted.submitted-sound pool arrivals next h was.sound a there at-once reply is by-rule;
          workers_are = rw (events-are h s) (omega (arith, w, b.0, b.1, before));
          now_is = sym (last-is h s);
          own_is = rw (events-are h s) (sym (just-is false ev (Submit a.id reply)));
          queue_is = rw (events-are h s) (map-append (λ (job : Arrival). job.id) queue (to_queue reply a) ∙ ap (λ (ids : List Id). ids ++ map (λ (job : Arrival). job.id) (to_queue reply a)) was.queue_is ∙ sym (queued-are reply is by-rule));
          runs_are = takes-its reply was.runs_are;
          jobs_are = running-more arrivals steps jobs h was.jobs_are (to_worker steps reply a) jobs2 (h ++ s ∷ []) (ordered-worker reply) more (worked-are reply is by-rule);
          idle_are = same ∙ ap (λ (w : List Idle). idle_next pool h w s) was.idle_are ∙ sym (idle-pushed pool h s);
        }

    few-more : (reply : JdkReply) → 3 * length (map (λ (job : Arrival). job.id) (to_queue reply a)) + length (run_at_once (Submit a.id reply ∷ [])) + begins reply ≤ 4
    few-more Core = omega arith
    few-more First = omega arith
    few-more Queued = omega arith
    few-more Handed = omega arith
    few-more Extra = omega arith
    few-more Full = omega arith
    few-more Closed = omega arith

    pub submitted-left : left pool arrivals (next + 1) (h ++ s ∷ []) < left pool arrivals next h
    submitted-left =
        let may = submitted.may pool arrivals next h was.sound a there at-once reply is by-rule in let w = workers-more pool arrivals next h was.sound s may in let n = runs-more pool arrivals next h was.sound s may in
        let b = begins-is reply in let few = few-more reply in let within = slice_get_within arrivals next a there in
        let waits = ap length (queued-are reply is by-rule) ∙ length-append (waiting ev) (map (λ (job : Arrival). job.id) (to_queue reply a)) in
        let crew = was.sound.crew in let later = rw (events-are h s) at (submitted.submitted-sound pool arrivals next h was.sound a there at-once reply is by-rule).crew in
        let own1 = submitted.own1 pool arrivals next h was.sound a there at-once reply is by-rule in
        rw (events-are h s) (omega (arith, w, n, b.0, b.1, few, within, waits, crew, later, own1))
