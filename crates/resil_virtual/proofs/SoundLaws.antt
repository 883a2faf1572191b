-- What is sound stays so with what is due next.
use Rattle.resil_virtual.proofs.Words.{◌⊎◌, ◌≡◌, ◌≤◌, ◌<◌, ◌+◌, ◌^◌, ◌||◌, ◌∷◌, [], ◌++◌, ◌∙◌, ℕ, Bool, false, All, List, Some, None, filter, length, max, slice_get, sum, take, refl, sym, ap, subst, arith, append_assoc, IfSome, last_size, times, Id, IsAllowed, IsLegal, finished, finished_id, is_begin, is_closed, is_closing, is_end, is_stop, is_stopped, last_setting, new_core, new_max, new_time_out, run_at_once, run_id, running, taken, taken_id, waiting, workers, JdkEvent, as-many, balance, served, events_in, TimedJdkEvent, runs_of, earliest_end_of, finishes, idle_after, idle_next, last_at, looks_of, next_due, submissions_at, submissions_of, opening, AreSound, IsFrom, IsOpen, ids_to_come, kept, own, staying, submitted_end, submitted_run, to_run, Arrival, Idle, VirtualPool}
use Rattle.std.proofs.lemmas.List.Folds.{list_any-append}
use Rattle.resil_jdk.proofs.HistoryLaws.{count-more, legal-push, marks-more, times-more}
use Rattle.resil_virtual.proofs.HistoryLaws.{ascending-pushed, due-pushed, events-are, filtered-same, idle-pushed, last-is}

-- a pool stays open by an event that neither closes it nor sets anything
pub opened-more : (pool : VirtualPool) (ev : List JdkEvent) (e : JdkEvent) → is_closing e ≡ false → is_stop e ≡ false → new_core e ≡ None → new_max e ≡ None → new_time_out e ≡ None → IsOpen pool ev → IsOpen pool (ev ++ e ∷ [])
opened-more pool ev e closes stops core max time_out was =
    let shuts : is_closed (e ∷ []) ≡ false = rw closes refl in let halts : is_stopped (e ∷ []) ≡ false = rw stops refl in
    record {
      unclosed = list_any-append is_closing ev (e ∷ []) ∙ ap (λ (b : Bool). b || is_closed (e ∷ [])) was.unclosed ∙ shuts;
      unstopped = list_any-append is_stop ev (e ∷ []) ∙ ap (λ (b : Bool). b || is_stopped (e ∷ [])) was.unstopped ∙ halts;
      core = ap (last_size pool.limits.core) (filtered-same new_core ev e core) ∙ was.core;
      max = ap (last_size pool.limits.max) (filtered-same new_max ev e max) ∙ was.max;
      time_out = ap (last_setting false) (filtered-same new_time_out ev e time_out) ∙ was.time_out;
    }

module _ (pool : VirtualPool) (arrivals : List Arrival) (next : ℕ) (h : List TimedJdkEvent) (was : AreSound pool arrivals next h) (t : TimedJdkEvent) where
  abbrev ev : List JdkEvent
  ev = events_in h

  abbrev ev2 : List JdkEvent
  ev2 = ev ++ t.event ∷ []

  abbrev idle2 : List Idle
  idle2 = idle_next pool h (idle_after pool h) t

  -- What the next due thing needs of a pool.
  pub record IsNext (next2 : ℕ) : Type 0 where
    pub may : IsAllowed pool.limits ev t.event
    pub later : last_at h ≤ t.at
    pub opened : IsOpen pool ev2
    pub submissions : submissions_at (h ++ t ∷ []) ≡ submissions_of (take next2 arrivals)
    pub arrival : IfSome (slice_get arrivals next2) (λ a. t.at ≤ a.at)
    pub jobs : (id : Id) → times id (ids_to_come arrivals (h ++ t ∷ [])) ≡ times id (running ev2)
    pub crew : length (running ev2) + length idle2 + own ev2 ≡ workers ev2
    pub stay : staying idle2 ≤ kept pool
    pub staffed : (waiting ev2 ≡ []) ⊎ (1 ≤ length (running ev2) + own ev2 + length (looks_of idle2))
    pub bound : ℕ
    pub fits : bound + pool.idle_for < 2 ^ 64
    pub before : IfSome (slice_get arrivals next2) (λ a. bound ≤ max a.at (submitted_end arrivals next2) + submitted_run pool arrivals next2)
    pub spent : to_run arrivals ev2 ≤ sum (runs_of (take next2 arrivals))
    pub ends : All (λ id. earliest_end_of arrivals id + to_run arrivals ev2 ≤ bound) (waiting ev2)
    pub due : All (λ finish. (t.at ≤ finish.at) × (finish.at + to_run arrivals ev2 ≤ bound)) (finishes arrivals (h ++ t ∷ []))
    pub idlers : All (IsFrom t.at (to_run arrivals ev2) bound) idle2
    pub now : (waiting ev2 ≡ []) ⊎ (t.at + to_run arrivals ev2 ≤ bound)

  pub pushed : (next2 : ℕ) → next_due pool arrivals h ≡ Some t → IsNext next2 → AreSound pool arrivals next2 (h ++ t ∷ [])
  pushed next2 is n =
      let e = events-are h t in let i = idle-pushed pool h t in let l = last-is h t in
      record {
        load = was.load;
        sizes = was.sizes;
        rest = was.rest ++ t ∷ [];
        opens = ap (λ (k : List TimedJdkEvent). k ++ t ∷ []) was.opens ∙ append_assoc (opening pool) was.rest (t ∷ []);
        events = due-pushed pool arrivals (opening pool) was.rest t was.events (subst (λ (k : List TimedJdkEvent). next_due pool arrivals k ≡ Some t) was.opens is);
        legal = rw e (legal-push pool.limits ev t.event was.legal n.may);
        opened = rw e n.opened;
        submissions = n.submissions;
        ascending = ascending-pushed h t n.later was.ascending;
        arrival = rw l n.arrival;
        jobs = λ x. n.jobs x ∙ ap (λ (es : List JdkEvent). times x (running es)) (sym e);
        crew = rw (e, i) n.crew;
        staying = rw i n.stay;
        staffed = rw (e, i) n.staffed;
        in_time = record { bound = n.bound; fits = n.fits; before = n.before; spent = rw e n.spent; ends = rw e n.ends; jobs = the-jobs n.bound n.due; idle = rw (e, i, l) n.idlers; now = rw (e, l) n.now };
      }
    where
      the-jobs : (bound : ℕ) → All (λ finish. (t.at ≤ finish.at) × (finish.at + to_run arrivals ev2 ≤ bound)) (finishes arrivals (h ++ t ∷ []))
          → All (λ finish. (last_at (h ++ t ∷ []) ≤ finish.at) × (finish.at + to_run arrivals (events_in (h ++ t ∷ [])) ≤ bound)) (finishes arrivals (h ++ t ∷ []))
      the-jobs bound all =
          subst (λ (es : List JdkEvent). All (λ finish. (last_at (h ++ t ∷ []) ≤ finish.at) × (finish.at + to_run arrivals es ≤ bound)) (finishes arrivals (h ++ t ∷ []))) (sym (events-are h t))
          (subst (λ m. All (λ finish. (m ≤ finish.at) × (finish.at + to_run arrivals ev2 ≤ bound)) (finishes arrivals (h ++ t ∷ []))) (sym (last-is h t)) all)

  -- what an event that is allowed adds
  module _ (may : IsAllowed pool.limits ev t.event) where
    legal2 : IsLegal pool.limits ev2
    legal2 = legal-push pool.limits ev t.event was.legal may

    pub runs-times : (x : Id) → times x (running ev2) + times x (finished (t.event ∷ [])) ≡ times x (running ev) + times x (run_at_once (t.event ∷ [])) + times x (taken (t.event ∷ []))
    runs-times x =
        let a = balance pool.limits ev was.legal x in let b = balance pool.limits ev2 legal2 x in
        let r = times-more run_id ev t.event x in let k = times-more taken_id ev t.event x in let f = times-more finished_id ev t.event x in omega (arith, a, b, r, k, f)

    pub runs-more : length (running ev2) + length (finished (t.event ∷ [])) ≡ length (running ev) + length (run_at_once (t.event ∷ [])) + length (taken (t.event ∷ []))
    runs-more =
        let a = as-many pool.limits ev was.legal in let b = as-many pool.limits ev2 legal2 in
        let r = count-more run_id ev t.event in let k = count-more taken_id ev t.event in let f = count-more finished_id ev t.event in omega (arith, a, b, r, k, f)

    pub workers-more : workers ev2 + length (filter is_end (t.event ∷ [])) ≡ workers ev + length (filter is_begin (t.event ∷ []))
    workers-more =
        let b = marks-more is_begin ev t.event in let d = marks-more is_end ev t.event in
        let ok = served pool.limits ev was.legal in let ok2 = served pool.limits ev2 legal2 in omega (arith, b, d, ok, ok2)
