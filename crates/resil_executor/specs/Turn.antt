-- What a turn writes into the log of a pool, what its seat sees of it, and what a worker has done.
use Rattle.std.specs.Prelude.{◌≡◌, ◌<◌, ◌≤◌, ◌⊎◌, ◌+◌, true, false, List, ◌++◌, ◌∷◌, [], Option, Some, None, length, Contains}
use Rattle.resil_executor.specs.Words.{IsPrefix, Sizes, times, running, waiting, workers, is_closed, core_size, max_size, submissions, accepted, finished, IsAllowed, IsLegal, RuleView, busy, made_by, HasOneToPick, HasNoneToPick, Id, Event, Submit, Reply, View, Numbers}
use Rattle.resil_rule.specs.declared.event.Reply.TheVariants as reply
use Rattle.resil_lock.specs.declared.log.Note.TheVariants as note
use Rattle.resil_executor.specs.declared.state.Refused.{Refused}
use Rattle.resil_executor.specs.declared.state.Refused.TheVariants as refused
use Rattle.resil_executor.specs.Kept.{refused}
use Rattle.resil_executor.specs.Log.{Entry, Note, StandsFor, picked_id, ended_id, work_of, entries_of, events_in, accepted_in, picked_in, ended_in, beyond_submissions_in, IsOver}

module _ {W : Type 0} where
  -- For any log that the rule stood for, it now stands for that log with what was written.
  abbrev pub Steps : RuleView W → Option Note → RuleView W → Type 0
  Steps before last after = (limits : Sizes) (log : List (Entry W)) → StandsFor limits log before → StandsFor limits (log ++ entries_of after last) after

  -- The event was allowed after any log that the rule stood for.
  abbrev pub MayFollow : RuleView W → Event → Type 0
  MayFollow before event = (limits : Sizes) (log : List (Entry W)) → StandsFor limits log before → IsAllowed limits (events_in log) event

  -- what was written is neither a pick nor an end
  abbrev pub IsPlain : RuleView W → Option Note → Type 0
  IsPlain after last = (picked_in (entries_of after last) ≡ []) × (ended_in (entries_of after last) ≡ [])

  -- what was written is a submission, or nothing
  abbrev pub IsVisit : RuleView W → Option Note → Type 0
  IsVisit after last = IsPlain after last × (beyond_submissions_in (entries_of after last) ≡ [])

  -- an event was written, and was allowed
  pub record Writes (before : RuleView W) (event : Event) (after : RuleView W) (last : Option Note) : Type 0 where
    pub steps : Steps before last after
    pub allowed : MayFollow before event
    pub wrote : last ≡ Some (note.Event event)

  pub record WritesNone (before after : RuleView W) (last : Option Note) : Type 0 where
    pub steps : Steps before last after
    pub none : last ≡ None

  -- a turn accepted the job with this id and work
  pub record Accepts (before : RuleView W) (id : Id) (reply : Reply) (work : W) (after : RuleView W) (last : Option Note) : Type 0 where
    pub writes : Writes before (Submit id reply) after last
    pub work_is : work_of after (note.Event (Submit id reply)) ≡ Some work

  -- a turn refused a submission
  abbrev pub Refuses : RuleView W → Refused → RuleView W → Option Note → Type 0
  Refuses before refused.Full after last = (id : Id) × Writes before (Submit id reply.Full) after last
  Refuses before refused.Closed after last = (id : Id) × Writes before (Submit id reply.Closed) after last
  Refuses before refused.Spent after last = WritesNone before after last × (made_by before 1 ≡ 18446744073709551615)
  Refuses before refused.Memory after last = WritesNone before after last

  -- a turn picked this job, which had been accepted, for any log
  pub record Picks (before : RuleView W) (id : Id) (work : W) (after : RuleView W) (last : Option Note) : Type 0 where
    pub steps : Steps before last after
    pub noted : Note
    pub wrote : last ≡ Some noted
    pub picked : picked_id noted ≡ Some id
    pub ended : ended_id noted ≡ None
    pub known : (limits : Sizes) (log : List (Entry W)) → StandsFor limits log before → Contains (accepted_in log) (id, work)

  -- no job may be picked, or as many run as the current maximum size allows
  abbrev pub HasNoneToRun : RuleView W → Type 0
  HasNoneToRun v = HasNoneToPick v ⊎ (v.max ≤ busy v)

  -- a job may begin: one that was let in with its own worker waits for it, or fewer run than the current maximum size allows
  abbrev pub MayBegin : RuleView W → Type 0
  MayBegin v = (0 < length v.unpicked) ⊎ (busy v < v.max)

  -- the rule is closed, has nothing to pick and runs nothing
  abbrev pub IsOverNow : RuleView W → Type 0
  IsOverNow v = (v.closed ≡ true) × (v.waiting ≡ []) × (busy v ≡ 0)

  -- a worker has something to do: its pool is over, which the worker must see, or there is a job to pick that may begin
  abbrev pub HasWork : RuleView W → Type 0
  HasWork v = IsOverNow v ⊎ (HasOneToPick v × MayBegin v)

  -- a seat picked a job with this id and hasn't ended it
  abbrev pub IsDue : Id → List (Entry W) → Type 0
  IsDue id own = times id (ended_in own) < times id (picked_in own)

  -- At most one job in hand: in each prefix of what a seat wrote, at most one more job was picked than ended.
  abbrev pub HasOneInHand : List (Entry W) → Type 0
  HasOneInHand part = (begun : List (Entry W)) → IsPrefix begun part → length (picked_in begun) ≤ length (ended_in begun) + 1

  -- A job was run by its own `run`.
  abbrev pub WasRun : {C O : Type 0} → (C → W → O → C → Type 0) → W → Type 0
  WasRun {C = C} {O = O} HasRun work = (from : C) × (output : O) × (to : C) × HasRun from work output to

  -- A run of the work that was accepted under this id, in this list of jobs, gave this output.
  abbrev pub IsOfItsRun : {C O : Type 0} → (C → W → O → C → Type 0) → List (Id × W) → Id → O → Type 0
  IsOfItsRun {C = C} HasRun jobs id output = (from : C) × (work : W) × (to : C) × HasRun from work output to × Contains jobs (id, work)

-- Nothing was free after a history: no room in the queue, and as many workers as are allowed.
pub record NothingFree (limits : Sizes) (history : List Event) : Type 0 where
  pub still_open : is_closed history ≡ false
  pub core : core_size limits history ≤ workers history
  pub queue : limits.queue ≤ length (waiting history)
  pub max : max_size limits history ≤ workers history

-- What a seat sees, for any key of its lock.
module _ {W K : Type 0} where
  -- A seat had a turn and wrote only this event. It sees a legal log, which begins with what it had seen and ends with the event, which was allowed at
  -- that point.
  pub record SeesLast (limits : Sizes) (before : View K (Entry W)) (event : Event) (after : View K (Entry W)) : Type 0 where
    pub log : List (Entry W)
    pub work : Option W
    pub begins : IsPrefix before.seen log
    pub ends : after.seen ≡ log ++ record { note = note.Event event; payload = work } ∷ []
    pub wrote : after.own ≡ before.own ++ record { note = note.Event event; payload = work } ∷ []
    pub allowed : IsAllowed limits (events_in log) event
    pub legal : IsLegal limits (events_in after.seen)
    pub turned : before.turns < after.turns

  -- A seat had a turn and wrote nothing. It sees a legal log, which begins with what it had seen.
  pub record SeesMore (limits : Sizes) (before after : View K (Entry W)) : Type 0 where
    pub begins : IsPrefix before.seen after.seen
    pub wrote : after.own ≡ before.own
    pub legal : IsLegal limits (events_in after.seen)
    pub turned : before.turns < after.turns

  -- A seat sees that its job was accepted, with its work, and wrote nothing else.
  pub record SeesAccepted (limits : Sizes) (before : View K (Entry W)) (id : Id) (reply : Reply) (work : W) (after : View K (Entry W)) : Type 0 where
    pub sees : SeesLast limits before (Submit id reply) after
    pub work_is : sees.work ≡ Some work

  -- A refusal is real: it is the last event of a legal log, and what it says held there. If no more submissions can be counted, nothing is written.
  abbrev pub SeesRefusal : Sizes → View K (Entry W) → Refused → View K (Entry W) → Type 0
  SeesRefusal limits before refused.Full after = (id : Id) × (sees : SeesLast limits before (Submit id reply.Full) after) × NothingFree limits (events_in sees.log)
  SeesRefusal limits before refused.Closed after = (id : Id) × (sees : SeesLast limits before (Submit id reply.Closed) after) × (is_closed (events_in sees.log) ≡ true)
  SeesRefusal limits before refused.Spent after = SeesMore limits before after × (length (submissions (events_in after.seen) 1) ≡ 18446744073709551615)
  SeesRefusal limits before refused.Memory after = IsPrefix before.seen after.seen × (after.own ≡ before.own)

  -- A seat picked the job with this id and work, which was accepted, and wrote nothing else.
  pub record HasPicked (limits : Sizes) (id : Id) (work : W) (before after : View K (Entry W)) : Type 0 where
    pub begins : IsPrefix before.seen after.seen
    pub legal : IsLegal limits (events_in after.seen)
    pub entry : Entry W
    pub wrote : after.own ≡ before.own ++ entry ∷ []
    pub picked : picked_id entry.note ≡ Some id
    pub ended : ended_id entry.note ≡ None
    pub known : Contains (accepted_in after.seen) (id, work)
    pub due : IsDue id after.own

  -- A seat picked nothing and ended nothing.
  pub record HasRested (limits : Sizes) (before after : View K (Entry W)) : Type 0 where
    pub begins : IsPrefix before.seen after.seen
    pub legal : IsLegal limits (events_in after.seen)
    pub part : List (Entry W)
    pub wrote : after.own ≡ before.own ++ part
    pub picked : picked_in part ≡ []
    pub ended : ended_in part ≡ []

  -- What a worker's seat wrote: the jobs that it ended are those that it picked, in their order, one at a time, and each was run by the own `run` of
  -- the work that was accepted under its id.
  pub record HasWorkedBy (limits : Sizes) (Was : W → Type 0) (before after : View K (Entry W)) : Type 0 where
    pub begins : IsPrefix before.seen after.seen
    pub part : List (Entry W)
    pub wrote : after.own ≡ before.own ++ part
    pub same : ended_in part ≡ picked_in part
    pub one_at_once : HasOneInHand part
    pub ran : (id : Id) → Contains (ended_in part) id → (work : W) × Contains (accepted_in after.seen) (id, work) × Was work

  -- the same, with a relation that says what a run does to its context
  abbrev pub HasWorked : {C O : Type 0} → Sizes → (C → W → O → C → Type 0) → View K (Entry W) → View K (Entry W) → Type 0
  HasWorked limits HasRun before after = HasWorkedBy limits (WasRun HasRun) before after

  -- All that a worker's seat wrote since it was hired: the jobs that it ended are those that it picked, one at a time, and each was run.
  abbrev pub HasWorkedSinceHiredBy : Sizes → (W → Type 0) → View K (Entry W) → Type 0
  HasWorkedSinceHiredBy limits Was v = (hired : View K (Entry W)) × (hired.seen ≡ []) × (hired.own ≡ []) × HasWorkedBy limits Was hired v

  abbrev pub HasWorkedSinceHired : {C O : Type 0} → Sizes → (C → W → O → C → Type 0) → View K (Entry W) → Type 0
  HasWorkedSinceHired limits HasRun v = HasWorkedSinceHiredBy limits (WasRun HasRun) v

  -- The pool is over, and no job was picked twice by this seat.
  pub record SeesOver (limits : Sizes) (v : View K (Entry W)) : Type 0 where
    pub legal : IsLegal limits (events_in v.seen)
    pub over : IsOver (events_in v.seen)
    pub once : (id : Id) → times id (picked_in v.own) ≤ 1

-- no job runs and none waits
abbrev pub AllFinished : List Event → Type 0
AllFinished history = (length (running history) ≡ 0) × (length (waiting history) ≡ 0)

-- what the numbers of a pool say about its history
pub record AreNumbersAfter (limits : Sizes) (history : List Event) (n : Numbers) : Type 0 where
  pub workers : n.workers ≡ workers history
  pub running : n.running ≡ length (running history)
  pub waiting : n.waiting ≡ length (waiting history)
  pub room : n.room + n.waiting ≡ limits.queue
  pub core : n.core ≡ core_size limits history
  pub max : n.max ≡ max_size limits history
  pub accepted : n.accepted ≡ length (accepted history)
  pub refused : n.refused ≡ length (refused history)
  pub finished : n.finished ≡ length (finished history)
  pub closed : n.closed ≡ is_closed history
