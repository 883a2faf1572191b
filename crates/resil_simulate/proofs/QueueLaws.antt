-- The jobs that wait and the waits of the jobs that started, with one more event.
use Rattle.std.proofs.Common.{◌≡◌, ◌≤◌, ◌-◌, ◌∷◌, [], ◌++◌, ◌∙◌, ℕ, false, not, List, Option, Some, None, All, length, filter, drop, map, option_and_then, option_map, slice_get, refl, sym, ap, subst, arith, append_assoc, append-nil}
use Rattle.std.specs.List.{cons_option}
use Rattle.std.proofs.lemmas.Bool.{cases_Bool}
use Rattle.std.proofs.lemmas.Grind.{common_steps}
use Rattle.std.proofs.lemmas.List.{drop-map, map_push}
use Rattle.std.proofs.lemmas.List.Elements.{All-cons, All-drop, All-filter, All-head, All-nil, All-push}
use Rattle.std.proofs.lemmas.Option.{same_Some}
use Rattle.resil_rule.specs.Limits.{Sizes}
use Rattle.resil_rule.specs.History.{is_among, is_same_id, times}
use Rattle.resil_rule.specs.declared.event.Id.{Id}
use Rattle.resil_rule.proofs.IdLaws.{same_id-self}
use Rattle.resil_rule.proofs.TimesLaws.{same_id-sym}
use Rattle.resil_jdk.specs.Admission.{AreAllowedAfter, IsAllowed, IsLegal}
use Rattle.resil_jdk.specs.History.{accepted_id, left, queued, waiting, without}
use Rattle.resil_jdk.specs.declared.event.JdkReply.TheVariants.{Core, First, Queued, Handed, Extra, Full, Closed}
use Rattle.resil_jdk.specs.declared.event.JdkEvent.{JdkEvent}
use Rattle.resil_jdk.specs.declared.event.JdkEvent.TheVariants.{Submit, Take, Finish, IdleEnd, Close, Resized, Start, Cull, Remove, Stop, TimeOut}
use Rattle.resil_jdk.proofs.StateLaws.{fresh-waiting, waiting-more, waits-few}
use Rattle.resil_stats.specs.Spans.{came_at, jdk_waits, started_id}
use Rattle.resil_stats.proofs.WaitLaws.{came-kept, came-new, waits-more}
use Rattle.resil_simulate.specs.Tally.{AreWaitsOf, queue_by, wait_by}
use Rattle.resil_simulate.specs.declared.tally.WaitingJob.{WaitingJob}

-- the last event of a legal history is allowed after those before it
pub allowed-last : (limits : Sizes) (before h : List JdkEvent) (e : JdkEvent) → AreAllowedAfter limits before (h ++ e ∷ []) → IsAllowed limits (before ++ h) e
allowed-last limits before [] e legal = rw append-nil legal.0
allowed-last limits before (x ∷ h) e legal = subst (λ (b : List JdkEvent). IsAllowed limits b e) (append_assoc before (x ∷ []) h) (allowed-last limits (before ++ x ∷ []) h e legal.1)

-- ---- The queue.

abbrev id_of : WaitingJob → Id
id_of job = job.id

-- a job alone under its id leaves
none-left : (id : Id) (ids : List Id) → times id ids ≡ 0 → without (id ∷ []) ids ≡ ids
none-left id [] none = refl
none-left id (y ∷ ids) none = let rest = none-left id ids in grind (arith, rest, none, same_id-sym id y, cases_Bool (is_same_id id y))

front-gone : (id : Id) (ids : List Id) → slice_get ids 0 ≡ Some id → times id ids ≤ 1 → without (id ∷ []) ids ≡ drop 1 ids
front-gone id [] front once = absurd (cc front)
front-gone id (y ∷ ids) front once =
    let same : y ≡ id = cc front in let own = same_id-self id in
    let none : times id ids ≡ 0 = grind (arith, common_steps, same, own, once) in let rest = none-left id ids none in rw same (rw own rest)

all-stay : (ids : List Id) → without [] ids ≡ ids
all-stay [] = refl
all-stay (y ∷ ids) = ap (λ (l : List Id). y ∷ l) (all-stay ids)

one-gone : (id : Id) (queue : List WaitingJob) → map id_of (filter (λ job. not (is_same_id id job.id)) queue) ≡ without (id ∷ []) (map id_of queue)
one-gone id [] = refl
one-gone id (job ∷ queue) = let rest = one-gone id queue in grind (arith, rest, same_id-sym id job.id, cases_Bool (is_same_id id job.id))

-- a new job is none of those that wait
all-other : (id : Id) (queue : List WaitingJob) → is_among id (map id_of queue) ≡ false → All (λ job. is_same_id job.id id ≡ false) queue
all-other id [] none = All-nil (λ job. is_same_id job.id id ≡ false)
all-other id (job ∷ queue) none =
    let first : is_same_id job.id id ≡ false = grind (arith, none, same_id-sym id job.id, cases_Bool (is_same_id id job.id)) in
    let rest : is_among id (map id_of queue) ≡ false = grind (arith, none, cases_Bool (is_same_id id job.id)) in
    All-cons (λ job. is_same_id job.id id ≡ false) job queue first (all-other id queue rest)

module _ (limits : Sizes) (h : List JdkEvent) (legal : IsLegal limits h) (ts : List ℕ) (t : ℕ) (same : length ts ≡ length h) (queue : List WaitingJob) (done : List ℕ) (was : AreWaitsOf h ts queue done) where
  queue-next : (e : JdkEvent) → IsAllowed limits h e → map id_of (queue_by e t queue) ≡ waiting (h ++ e ∷ [])
  queue-next e allowed = go e allowed ∙ sym (waiting-more limits h legal e allowed)
    where
      stays : map id_of queue ≡ without [] (waiting h) ++ []
      stays = was.queue ∙ sym (append-nil (without [] (waiting h)) ∙ all-stay (waiting h))

      comes : (id : Id) → map id_of (queue ++ record { id = id; at = t } ∷ []) ≡ without [] (waiting h) ++ id ∷ []
      comes id = map_push id_of queue (record { id = id; at = t }) ∙ ap (λ (l : List Id). l ++ id ∷ []) (was.queue ∙ sym (all-stay (waiting h)))

      go : (e : JdkEvent) → IsAllowed limits h e → map id_of (queue_by e t queue) ≡ without (left (e ∷ [])) (waiting h) ++ queued (e ∷ [])
      go (Submit id Core) allowed = stays
      go (Submit id First) allowed = comes id
      go (Submit id Queued) allowed = comes id
      go (Submit id Handed) allowed = stays
      go (Submit id Extra) allowed = stays
      go (Submit id Full) allowed = stays
      go (Submit id Closed) allowed = stays
      go (Take id) allowed = sym (append-nil (without (id ∷ []) (waiting h)) ∙ front-gone id (waiting h) allowed.0 (waits-few limits h legal id) ∙ ap (drop 1) (sym was.queue) ∙ drop-map id_of 1 queue)
      go (Remove id) allowed = one-gone id queue ∙ ap (without (id ∷ [])) was.queue ∙ sym (append-nil (without (id ∷ []) (waiting h)))
      go e allowed = stays

  abbrev Came : JdkEvent → WaitingJob → Type 0
  Came e job = came_at (h ++ e ∷ []) (ts ++ t ∷ []) job.id ≡ Some job.at

  -- no job is accepted
  still : (e : JdkEvent) → accepted_id e ≡ None → All (Came e) queue
  still e none k d lt = came-kept h e ts t same _ (λ x is. absurd (cc (sym none ∙ is))) ∙ was.came k d lt

  -- another job is accepted
  others : (id : Id) (e : JdkEvent) → accepted_id e ≡ Some id → is_among id (waiting h) ≡ false → All (Came e) queue
  others id e is fresh k d lt =
      let other = all-other id queue (ap (is_among id) was.queue ∙ fresh) k d lt in
      came-kept h e ts t same _ (λ x now. rw (same_Some _ _ (sym now ∙ is)) other) ∙ was.came k d lt

  came-next : (e : JdkEvent) → IsAllowed limits h e → All (Came e) (queue_by e t queue)
  came-next (Submit id Core) allowed = others id (Submit id Core) refl (fresh-waiting limits h legal id allowed.0)
  came-next (Submit id First) allowed = All-push (Came (Submit id First)) queue (record { id = id; at = t }) (others id (Submit id First) refl (fresh-waiting limits h legal id allowed.0)) (came-new h (Submit id First) ts t same id refl)
  came-next (Submit id Queued) allowed = All-push (Came (Submit id Queued)) queue (record { id = id; at = t }) (others id (Submit id Queued) refl (fresh-waiting limits h legal id allowed.0)) (came-new h (Submit id Queued) ts t same id refl)
  came-next (Submit id Handed) allowed = others id (Submit id Handed) refl (fresh-waiting limits h legal id allowed.0)
  came-next (Submit id Extra) allowed = others id (Submit id Extra) refl (fresh-waiting limits h legal id allowed.0)
  came-next (Submit id Full) allowed = still (Submit id Full) refl
  came-next (Submit id Closed) allowed = still (Submit id Closed) refl
  came-next (Take id) allowed = All-drop (Came (Take id)) 1 queue (still (Take id) refl)
  came-next (Remove id) allowed = All-filter (λ job. not (is_same_id id job.id)) (Came (Remove id)) queue (still (Remove id) refl)
  came-next (Finish id) allowed = still (Finish id) refl
  came-next IdleEnd allowed = still IdleEnd refl
  came-next Close allowed = still Close refl
  came-next (Resized core max) allowed = still (Resized core max) refl
  came-next Start allowed = still Start refl
  came-next Cull allowed = still Cull refl
  came-next Stop allowed = still Stop refl
  came-next (TimeOut on) allowed = still (TimeOut on) refl

  -- ---- The waits.

  -- the wait of a job that starts at once, and of one that is taken
  at-once : (id : Id) (e : JdkEvent) → accepted_id e ≡ Some id → option_map (λ at. t - at) (came_at (h ++ e ∷ []) (ts ++ t ∷ []) id) ≡ Some 0
  at-once id e is = ap (option_map (λ at. t - at)) (came-new h e ts t same id is) ∙ ap Some (omega arith)

  when-taken : (id : Id) (jobs : List WaitingJob) → map id_of jobs ≡ waiting h → All (λ job. came_at h ts job.id ≡ Some job.at) jobs → slice_get (waiting h) 0 ≡ Some id
      → option_map (λ at. t - at) (came_at (h ++ Take id ∷ []) (ts ++ t ∷ []) id) ≡ option_map (λ job. t - job.at) (slice_get jobs 0)
  when-taken id [] are came front = absurd (cc (ap (λ (ids : List Id). slice_get ids 0) are ∙ front))
  when-taken id (job ∷ jobs) are came front =
      let own : job.id ≡ id = same_Some _ _ (ap (λ (ids : List Id). slice_get ids 0) are ∙ front) in
      let first : came_at h ts id ≡ Some job.at = subst (λ (x : Id). came_at h ts x ≡ Some job.at) own (All-head (λ job. came_at h ts job.id ≡ Some job.at) job jobs came) in
      ap (option_map (λ at. t - at)) (came-kept h (Take id) ts t same id (λ x is. absurd (cc is)) ∙ first)

  wait-next : (e : JdkEvent) → IsAllowed limits h e → option_and_then (λ id. option_map (λ at. t - at) (came_at (h ++ e ∷ []) (ts ++ t ∷ []) id)) (started_id e) ≡ wait_by e t queue
  wait-next (Submit id Core) allowed = at-once id (Submit id Core) refl
  wait-next (Submit id Handed) allowed = at-once id (Submit id Handed) refl
  wait-next (Submit id Extra) allowed = at-once id (Submit id Extra) refl
  wait-next (Submit id First) allowed = refl
  wait-next (Submit id Queued) allowed = refl
  wait-next (Submit id Full) allowed = refl
  wait-next (Submit id Closed) allowed = refl
  wait-next (Take id) allowed = when-taken id queue was.queue was.came allowed.0
  wait-next e allowed = refl

  pub waits-next : (e : JdkEvent) → IsAllowed limits h e → AreWaitsOf (h ++ e ∷ []) (ts ++ t ∷ []) (queue_by e t queue) (done ++ cons_option (wait_by e t queue) [])
  waits-next e allowed = record {
    queue = queue-next e allowed;
    came = came-next e allowed;
    done = ap (λ (l : List ℕ). l ++ cons_option (wait_by e t queue) []) was.done ∙ ap (λ (o : Option ℕ). jdk_waits 0 ts h ++ cons_option o []) (sym (wait-next e allowed)) ∙ sym (waits-more h e ts t same);
  }
