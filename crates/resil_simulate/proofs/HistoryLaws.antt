-- The submissions of a history: the times of their starts and finishes, and the load that they are.
use Rattle.resil_simulate.proofs.Words.{◌≡◌, ◌≤◌, ◌<◌, ◌+◌, ◌^◌, ◌==◌, ◌∷◌, [], ◌++◌, ◌∙◌, ℕ, zero, suc, Bool, true, false, cond, List, Option, Some, None, drop, get_or, length, slice_get, slice_index, take, option_map, refl, sym, ap, subst, arith, append_assoc, append-nil, nat_cmp, BTreeMap, get, option_map_or, option_or, common_steps, map-append, take_more, length-take-le, AreAscending, Sizes, is_same_id, Id, of_caller, times_of, IsLoad, Arrival, AreTimesOf, Terms, arrival_by, arrivals_by, is_of, job_at, key, ran_of, submissions_in, submitted_at, submitted_id, time_of, AreInTime, IsHistoryLoadRefusal, jobs_in, restated_in, Ways}
use Rattle.std.specs.List.{cons_option, enumerate_from, filter_map, find}
use Rattle.std.proofs.lemmas.List.Elements.{filter_map-append}
use Rattle.std.proofs.lemmas.List.Folds.{find-append}
use Rattle.resil_heads.specs.CommandError.{IsError}
use Rattle.resil_heads.specs.declared.command_error.CommandError.{CommandError}
use Rattle.resil_heads.specs.declared.command_error.CommandError.TheVariants as error
use Rattle.resil_heads.specs.declared.refusal.LoadRefusal.TheVariants.{TimeTooLate}
use Rattle.resil_heads.specs.declared.refusal.InputRefusal.TheVariants as refusal
use Rattle.resil_rule.specs.History.{last_size}
use Rattle.resil_jdk.specs.Admission.{AreAllowedAfter, IsAllowed, IsLegal}
use Rattle.resil_jdk.specs.History.{is_submit_of, next_number, submissions}
use Rattle.resil_jdk.specs.declared.event.JdkEvent.{JdkEvent}
use Rattle.resil_jdk.specs.declared.event.JdkEvent.TheVariants as event
use Rattle.resil_jdk.specs.declared.event.JdkReply.{JdkReply}
use Rattle.resil_jdk.proofs.HistoryLaws.{submissions-more}
use Rattle.resil_jdk.specs.Timed.{events_in, times_in}
use Rattle.resil_jdk.specs.declared.timed.TimedJdkEvent.{TimedJdkEvent}
use Rattle.resil_stats.proofs.LoadLaws.{no_event}
use Rattle.resil_stats.proofs.PlaceLaws.{placed-push}
use Rattle.resil_virtual.proofs.HistoryLaws.{ascending-more}
use Rattle.resil_simulate.specs.History.{last_at}
use Rattle.resil_simulate.specs.Load.{IsLateRefusal, IsUsable}
use Rattle.resil_simulate.specs.declared.history.JobMoment.{JobMoment}
use Rattle.resil_simulate.specs.declared.history.SubmittedJob.{SubmittedJob}
use Rattle.resil_simulate.proofs.LoadLaws.{load}

-- an event with its time, for places that are never read
abbrev pub no_timed : TimedJdkEvent
no_timed = record { event = no_event; at = 0 }

-- no submission is made of another event
pub none-submitted : (h : List TimedJdkEvent) (p : ℕ) (t : TimedJdkEvent) → ((id : Id) (reply : JdkReply) → t.event ≡ event.Submit id reply → ⊥) → None ≡ submitted_at h (p, t)
none-submitted h p t other = go t.event refl
  where
    go : (e : JdkEvent) → t.event ≡ e → None ≡ submitted_at h (p, t)
    go (event.Submit id reply) is = absurd (other id reply is)
    go (event.Take id) is = rw is refl
    go (event.Finish id) is = rw is refl
    go event.IdleEnd is = rw is refl
    go event.Close is = rw is refl
    go (event.Resized core max) is = rw is refl
    go event.Start is = rw is refl
    go event.Cull is = rw is refl
    go (event.Remove id) is = rw is refl
    go event.Stop is = rw is refl
    go (event.TimeOut on) is = rw is refl

-- ---- The times of starts and finishes.

time-more : (moment : JobMoment) (h : List TimedJdkEvent) (t : TimedJdkEvent) (id : Id) → time_of moment (h ++ t ∷ []) id ≡ option_or (time_of moment h id) (cond (is_of moment id t) (Some t.at) None)
time-more moment h t id = ap (option_map (λ timed. timed.at)) (find-append (is_of moment id) h (t ∷ [])) ∙ go (find (is_of moment id) h) (is_of moment id t)
  where
    go : (found : Option TimedJdkEvent) (own : Bool) → option_map (λ timed. timed.at) (option_or found (cond own (Some t) None)) ≡ option_or (option_map (λ timed. timed.at) found) (cond own (Some t.at) None)
    go (Some x) own = refl
    go None true = refl
    go None false = refl

-- a table with one more event that is of no job
pub times_kept : (moment : JobMoment) (h : List TimedJdkEvent) (t : TimedJdkEvent) (times : BTreeMap ℕ ℕ) → None ≡ job_at moment t.event → AreTimesOf moment h times → AreTimesOf moment (h ++ t ∷ []) times
times_kept moment h t times none are id small = are id small ∙ sym (time-more moment h t id ∙ go (time_of moment h id) (job_at moment t.event) (sym none))
  where
    go : (found : Option ℕ) (job : Option Id) → job ≡ None → option_or found (cond (option_map_or (is_same_id id) job false) (Some t.at) None) ≡ found
    go found (Some x) is = absurd (cc is)
    go (Some x) None is = refl
    go None None is = refl

-- one number for each id
key-same : (x y : Id) → x.number < 2 ^ 64 → y.number < 2 ^ 64 → (key x == key y) ≡ is_same_id y x
key-same x y one other = grind (arith, common_steps, one, other)

-- and with one that is of a job
pub times_more : (moment : JobMoment) (h : List TimedJdkEvent) (t : TimedJdkEvent) (job : Id) (old new : BTreeMap ℕ ℕ) → Some job ≡ job_at moment t.event → job.number < 2 ^ 64
    → ((other : ℕ) → get nat_cmp new other ≡ option_or (get nat_cmp old other) (cond (key job == other) (Some t.at) None)) → AreTimesOf moment h old → AreTimesOf moment (h ++ t ∷ []) new
times_more moment h t job old new is fits kept are id small =
    let own : (key job == key id) ≡ is_of moment id t = key-same job id fits small ∙ ap (λ o. option_map_or (is_same_id id) o false) is in
    kept (key id) ∙ ap (λ o. option_or o (cond (key job == key id) (Some t.at) None)) (are id small)
    ∙ ap (λ b. option_or (time_of moment h id) (cond b (Some t.at) None)) own ∙ sym (time-more moment h t id)

-- ---- Ascending times.

-- none of some times is lower
abbrev AreBehind : ℕ → List ℕ → Type 0
AreBehind t [] = Unit {0}
AreBehind t (u ∷ times) = (t ≤ u) × AreBehind t times

earlier-behind : (t u : ℕ) (times : List ℕ) → t ≤ u → AreBehind u times → AreBehind t times
earlier-behind t u [] le behind = tt
earlier-behind t u (v ∷ times) le behind = (omega (arith, le, behind.0), earlier-behind t u times le behind.1)

ascending-behind : (t : ℕ) (times : List ℕ) → AreAscending (t ∷ times) → AreAscending times
ascending-behind t times ascending = λ k lt.
    let same : suc k + 1 ≡ suc (k + 1) = omega arith in
    subst (λ n. slice_index times k ≤ slice_index (t ∷ times) n) same (ascending (suc k) (omega (arith, lt)))

behind-first : (t : ℕ) (times : List ℕ) → AreAscending (t ∷ times) → AreBehind t times
behind-first t [] ascending = tt
behind-first t (u ∷ times) ascending =
    let le : t ≤ u = ascending 0 (omega arith) in
    (le, earlier-behind t u times le (behind-first u times (ascending-behind t (u ∷ times) ascending)))

ascending-from : (t : ℕ) (times : List ℕ) → AreBehind t times → AreAscending times → AreAscending (t ∷ times)
ascending-from t [] behind ascending = λ k within. absurd (omega (arith, within))
ascending-from t (u ∷ times) behind ascending = ascending-more t u times behind.0 ascending

-- ---- The submissions as a load.

not-submit : (caller : ℕ) (e : JdkEvent) → submitted_id e ≡ None → is_submit_of caller e ≡ false
not-submit caller (event.Submit id reply) is = absurd (cc is)
not-submit caller e is = refl

own-number : (limits : Sizes) (before : List JdkEvent) (e : JdkEvent) (id : Id) → submitted_id e ≡ Some id → IsAllowed limits before e
    → (id.number ≡ next_number before id.caller) × ((caller : ℕ) → is_submit_of caller e ≡ (id.caller == caller))
own-number limits before (event.Submit x reply) id is allowed =
    let same : x ≡ id = cc is in
    (subst (λ (y : Id). y.number ≡ next_number before y.caller) same allowed.0, λ caller. ap (λ (y : Id). y.caller == caller) same)
own-number limits before e id is allowed = absurd (cc is)

module _ (whole : List TimedJdkEvent) (terms : Terms) (first : List JdkEvent) where
  abbrev jobs_from : ℕ → List TimedJdkEvent → List Arrival
  jobs_from p h = arrivals_by terms first (filter_map (submitted_at whole) (enumerate_from p h))

  abbrev job_of : ℕ → TimedJdkEvent → Id → Arrival
  job_of p t id = arrival_by terms first (record { place = p; id = id; at = t.at; ran = ran_of whole id })

  -- a job with its caller's next number after those of the first events, with which events begin
  abbrev IsNumbered : List JdkEvent → List Arrival → ℕ → Arrival → Type 0
  IsNumbered before jobs k a = a.id.number + length (submissions first a.id.caller) ≡ suc (length (submissions before a.id.caller) + length (of_caller a.id.caller (take k jobs)))

  abbrev HasFirst : List JdkEvent → Type 0
  HasFirst before = (caller : ℕ) → length (submissions first caller) ≤ length (submissions before caller)

  -- each has its caller's next number
  numbered : (limits : Sizes) (before : List JdkEvent) (p : ℕ) (h : List TimedJdkEvent) → HasFirst before → AreAllowedAfter limits before (events_in h) → (k : ℕ) (a : Arrival) → slice_get (jobs_from p h) k ≡ Some a
      → IsNumbered before (jobs_from p h) k a
  numbered limits before p [] has legal k a is = absurd (cc is)
  numbered limits before p (t ∷ h) has legal k a is = go (λ k here. numbered limits (before ++ t.event ∷ []) (p + 1) h has-more legal.1 k a here) (submitted_id t.event) refl k is
    where
      more : length (submissions (before ++ t.event ∷ []) a.id.caller) ≡ length (submissions before a.id.caller) + cond (is_submit_of a.id.caller t.event) 1 0
      more = submissions-more before t.event a.id.caller

      has-more : HasFirst (before ++ t.event ∷ [])
      has-more caller = omega (arith, has caller, submissions-more before t.event caller)

      go : ((k : ℕ) → slice_get (jobs_from (p + 1) h) k ≡ Some a → IsNumbered (before ++ t.event ∷ []) (jobs_from (p + 1) h) k a) → (o : Option Id) → submitted_id t.event ≡ o
          → (k : ℕ) → slice_get (jobs_from p (t ∷ h)) k ≡ Some a → IsNumbered before (jobs_from p (t ∷ h)) k a
      go later None none k is =
          let same : jobs_from p (t ∷ h) ≡ jobs_from (p + 1) h = rw none refl in
          let none-here = rw (not-submit a.id.caller t.event none) at more in
          rw same (omega (arith, later k (rw same at is), none-here))
      go later (Some id) some zero is =
          let own = own-number limits before t.event id some legal.0 in
          let same : job_of p t id ≡ a = cc (rw some at is) in
          subst (λ (x : Arrival). x.id.number + length (submissions first x.id.caller) ≡ suc (length (submissions before x.id.caller) + 0)) same (omega (arith, own.0, has id.caller))
      go later (Some id) some (suc k) is =
          let own = own-number limits before t.event id some legal.0 in
          let same : jobs_from p (t ∷ h) ≡ job_of p t id ∷ jobs_from (p + 1) h = rw some refl in
          let then = later k (rw same at is) in
          let one-here = rw (own.1 a.id.caller) at more in
          rw same (grind (arith, common_steps, then, one-here))

  -- no event comes before a time that all events are after
  behind-jobs : (bound p : ℕ) (h : List TimedJdkEvent) → AreBehind bound (times_in h) → AreBehind bound (times_of (jobs_from p h))
  behind-jobs bound p [] behind = tt
  behind-jobs bound p (t ∷ h) behind = go (behind-jobs bound (p + 1) h behind.1) (submitted_id t.event) refl
    where
      go : AreBehind bound (times_of (jobs_from (p + 1) h)) → (o : Option Id) → submitted_id t.event ≡ o → AreBehind bound (times_of (jobs_from p (t ∷ h)))
      go later None none = rw none later
      go later (Some id) some = rw some (behind.0, later)

  ascending-jobs : (p : ℕ) (h : List TimedJdkEvent) → AreAscending (times_in h) → AreAscending (times_of (jobs_from p h))
  ascending-jobs p [] ascending = λ k within. absurd (omega (arith, within))
  ascending-jobs p (t ∷ h) ascending = go (ascending-jobs (p + 1) h (ascending-behind t.at (times_in h) ascending)) (submitted_id t.event) refl
    where
      go : AreAscending (times_of (jobs_from (p + 1) h)) → (o : Option Id) → submitted_id t.event ≡ o → AreAscending (times_of (jobs_from p (t ∷ h)))
      go later None none = rw none later
      go later (Some id) some = rw some (ascending-from t.at (times_of (jobs_from (p + 1) h)) (behind-jobs t.at (p + 1) h (behind-first t.at (times_in h) ascending)) later)

-- after the first events
allowed-drop : (limits : Sizes) (before : List JdkEvent) (k : ℕ) (h : List TimedJdkEvent) → AreAllowedAfter limits before (events_in h) → AreAllowedAfter limits (before ++ take k (events_in h)) (events_in (drop k h))
allowed-drop limits before zero h legal = rw append-nil legal
allowed-drop limits before (suc k) [] legal = tt
allowed-drop limits before (suc k) (t ∷ h) legal =
    subst (λ (b : List JdkEvent). AreAllowedAfter limits b (events_in (drop k h))) (append_assoc before (t.event ∷ []) (take k (events_in h))) (allowed-drop limits (before ++ t.event ∷ []) k h legal.1)

ascending-drop : (k : ℕ) (h : List TimedJdkEvent) → AreAscending (times_in h) → AreAscending (times_in (drop k h))
ascending-drop zero h ascending = ascending
ascending-drop (suc k) [] ascending = ascending
ascending-drop (suc k) (t ∷ h) ascending = ascending-drop k h (ascending-behind t.at (times_in h) ascending)

pub history_load : (limits : Sizes) (ways : Ways) (terms : Terms) (h : List TimedJdkEvent) → IsLegal limits (events_in h) → AreAscending (times_in h) → AreInTime ways (jobs_in terms h)
    → IsLoad ways.idle_for ways.wakes (jobs_in terms h)
history_load limits ways terms h legal ascending in_time =
    let first = restated_in terms.made h in
    let rest = drop terms.made h in
    load ways (jobs_in terms h) (ascending-jobs h terms first (suc terms.made) rest (ascending-drop terms.made h ascending))
    (λ k a is. omega (arith, numbered h terms first limits first (suc terms.made) rest (λ caller. omega arith) (allowed-drop limits [] terms.made h legal) k a is))
    in_time

-- One event of a slice after others.

-- the submissions after the first events, with one more event
module _ (history rest : List TimedJdkEvent) (restated i : ℕ) (lt : i < length rest) where
  abbrev made_to : ℕ → List SubmittedJob
  made_to k = filter_map (submitted_at history) (enumerate_from (suc restated) (take k rest))

  one-more : made_to (i + 1) ≡ made_to i ++ cons_option (submitted_at history (suc restated + i, get_or rest i no_timed)) []
  one-more =
      let f = submitted_at history in
      let t = get_or rest i no_timed in
      let here : suc restated + length (take i rest) ≡ suc restated + i = ap (λ n. suc restated + n) (length-take-le i rest (omega (arith, lt))) in
      ap (λ (h : List TimedJdkEvent). filter_map f (enumerate_from (suc restated) h)) (take_more rest i no_timed lt)
      ∙ ap (filter_map f) (placed-push (suc restated) (take i rest) t)
      ∙ filter_map-append f (enumerate_from (suc restated) (take i rest)) ((suc restated + length (take i rest), t) ∷ [])
      ∙ ap (λ n. made_to i ++ cons_option (f (n, t)) []) here

  pub none_made : None ≡ submitted_at history (suc restated + i, get_or rest i no_timed) → made_to i ≡ made_to (i + 1)
  none_made none = sym (one-more ∙ ap (λ o. made_to i ++ cons_option o []) (sym none) ∙ append-nil (made_to i))

  pub one_made : (x : SubmittedJob) → Some x ≡ submitted_at history (suc restated + i, get_or rest i no_timed) → made_to i ++ x ∷ [] ≡ made_to (i + 1)
  one_made x one = sym (one-more ∙ ap (λ o. made_to i ++ cons_option o []) (sym one))

-- ---- The time of the last event.

last-is : (times : List ℕ) (at other : ℕ) → at ≡ last_size other (times ++ at ∷ [])
last-is [] at other = refl
last-is (t ∷ times) at other = last-is times at t

pub last-more : (h : List TimedJdkEvent) (i : ℕ) (d : TimedJdkEvent) → i < length h → (get_or h i d).at ≡ last_at (take (i + 1) h)
last-more h i d lt =
    last-is (times_in (take i h)) (get_or h i d).at 0
    ∙ ap (last_size 0) (sym (ap times_in (take_more h i d lt) ∙ map-append (λ (t : TimedJdkEvent). t.at) (take i h) (get_or h i d ∷ [])))

-- ---- Refusals of a history that can be carried out.

pub late_refused : (ways : Ways) (terms : Terms) (h : List TimedJdkEvent) → IsUsable terms h → (why : CommandError) → IsError (IsLateRefusal ways (jobs_in terms h) (submissions_in terms.made h)) why
    → IsError (IsHistoryLoadRefusal ways terms h) why
late_refused ways terms h usable error.Memory is = tt
late_refused ways terms h usable error.NoThread is = is
late_refused ways terms h usable (error.Refused (refusal.Load position TimeTooLate)) is = (usable, is)
late_refused ways terms h usable (error.Refused (refusal.Load position why)) is = absurd is
late_refused ways terms h usable (error.Refused why) is = absurd is
