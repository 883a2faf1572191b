-- The log of a pool, with the jobs that were accepted, and for which logs a rule stands.
use Rattle.std.specs.Prelude.{◌≡◌, ◌+◌, ◌<◌, ◌⊎◌, [], ◌∷◌, true, List, Option, Some, None, Contains, filter_map, length}
use Rattle.resil_executor.specs.Words.{Sizes, times, is_among, is_closed, waiting, running, accepted, finished, ids_out, RuleView, IsStateOf, Id, Core, Queued, Extra, Event, Submit, Rank, Logged}
use Rattle.resil_lock.specs.declared.protocol.Rank.TheVariants as rank
use Rattle.resil_lock.specs.declared.log.Note.TheVariants as note
pub use Rattle.resil_lock.specs.declared.log.Note.{Note}
pub use Rattle.resil_lock.specs.Log.{event_of, picked_id, ended_id, events_in, picked_in, ended_in, IsBalanced}

-- an entry, with the work of an accepted submission
abbrev pub Entry : Type 0 → Type 0
Entry W = Logged (Option W)

-- what was noted, if it isn't a submission
abbrev pub beyond_submission : Note → Option Note
beyond_submission (note.Event (Submit id reply)) = None
beyond_submission noted = Some noted

module _ {W : Type 0} where
  -- a submission with its work
  abbrev pub job_of : Note → Option W → Option (Id × W)
  job_of (note.Event (Submit id reply)) (Some work) = Some (id, work)
  job_of _ _ = None

  -- the jobs that were accepted, each with its work, in order
  abbrev pub accepted_in : List (Entry W) → List (Id × W)
  accepted_in log = filter_map (λ entry. job_of entry.note entry.payload) log

  abbrev pub beyond_submissions_in : List (Entry W) → List Note
  beyond_submissions_in log = filter_map (λ entry. beyond_submission entry.note) log

  -- the work of the last job of a list
  abbrev pub last_work : List (Id × W) → Option W
  last_work [] = None
  last_work (job ∷ []) = Some job.1
  last_work (job ∷ next ∷ jobs) = last_work (next ∷ jobs)

  -- the work that a turn accepted: the last one that the rule has where the reply puts it
  abbrev pub work_of : RuleView W → Note → Option W
  work_of v (note.Event (Submit id Core)) = last_work v.unpicked
  work_of v (note.Event (Submit id Extra)) = last_work v.unpicked
  work_of v (note.Event (Submit id Queued)) = last_work v.waiting
  work_of v _ = None

  abbrev pub entry_of : RuleView W → Note → Entry W
  entry_of v noted = record { note = noted; payload = work_of v noted }

  -- what a turn wrote, given the rule after the turn and what the turn noted
  abbrev pub entries_of : RuleView W → Option Note → List (Entry W)
  entries_of v None = []
  entries_of v (Some noted) = entry_of v noted ∷ []

  -- each of these jobs was accepted, with its work
  abbrev pub AreAcceptedIn : List (Entry W) → List (Id × W) → Type 0
  AreAcceptedIn log jobs = (job : Id × W) → Contains jobs job → Contains (accepted_in log) job

  -- The rule stands for the log's history, in a pool of these limits. It counts the pool's own submissions. The jobs that are out are those
  -- that were picked and not ended. The works that it has are those that were accepted under their ids.
  pub record StandsFor (limits : Sizes) (log : List (Entry W)) (v : RuleView W) : Type 0 where
    pub state : IsStateOf (events_in log) v
    pub limits_are : v.limits ≡ limits
    pub counts : 1 < length v.made
    pub outs : (id : Id) → times id (picked_in log) ≡ times id (ids_out v.out) + times id (ended_in log)
    pub starts : AreAcceptedIn log v.unpicked
    pub queue : AreAcceptedIn log v.waiting

  -- A seat ends only jobs that it picked. Only workers pick. A visitor only submits.
  pub record MayHaveWritten (who : Rank) (own : List (Entry W)) : Type 0 where
    pub balanced : IsBalanced own
    pub workers : (who ≡ rank.Worker) ⊎ (picked_in own ≡ [])
    pub visitors : who ≡ rank.Visitor → beyond_submissions_in own ≡ []

-- The pool is closed, no job waits and none runs. Each accepted job is finished.
pub record IsOver (history : List Event) : Type 0 where
  pub closed : is_closed history ≡ true
  pub none_waits : waiting history ≡ []
  pub none_runs : running history ≡ []
  pub all_finished : (id : Id) → is_among id (accepted history) ≡ true → is_among id (finished history) ≡ true
