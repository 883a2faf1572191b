-- Laws of what clauses say, for any bodies.
use Rattle.std.specs.Prelude.{◌≡◌, ◌⊎◌, ◌≤◌, ◌<◌, ◌+◌, ℕ, ◌++◌, ◌∷◌, [], true, List, Option, length}
use Rattle.resil_executor.specs.Words.{IsPrefix, Sizes, AreSizes, IsAllowed, IsLegal, is_closed, is_among, times, waiting, running, finished, RuleView, Id, Event, Finish, View, is_there, total, IsSeatAt}
use Rattle.resil_lock.specs.declared.protocol.Rank.TheVariants as rank
use Rattle.resil_executor.specs.Log.{Entry, Note, MayHaveWritten, entries_of, events_in, picked_in, ended_in, IsOver}
use Rattle.resil_executor.specs.Turn.{Picks, HasPicked, HasWorked, SeesLast, SeesMore}

-- K is the key of the lock.
module _ {W C O : Type 0} (K : Type 0) (HasRun : C → W → O → C → Type 0) where
  -- A worker that picked a job and wrote nothing more hasn't worked: the job was dropped, or run and never ended.
  abbrev pub PickedIsEnded : Type 0
  PickedIsEnded = (limits : Sizes) (before after : View K (Entry W)) (id : Id) (work : W) → HasPicked limits id work before after → HasWorked limits HasRun before after → ⊥

  -- A worker that picked a job, then ended one, and so has worked, ended the job that it picked.
  abbrev pub EndedWasPicked : Type 0
  EndedWasPicked =
      (limits : Sizes) (before between after : View K (Entry W)) (id other : Id) (work : W) → HasPicked limits id work before between → SeesLast limits between (Finish other) after → HasWorked limits HasRun before after → other ≡ id

module _ (W : Type 0) where
  -- Neither a visitor's seat nor the closer's may have written a pick.
  abbrev pub OnlyWorkersPick : Type 0
  OnlyWorkersPick =
      (own : List (Entry W)) (v after : RuleView W) (last : Option Note) (id : Id) (work : W) → Picks v id work after last
      → (MayHaveWritten rank.Visitor (own ++ entries_of after last) → ⊥) × (MayHaveWritten rank.Opener (own ++ entries_of after last) → ⊥)

module _ (W K : Type 0) where
  -- A look is a turn, which its view counts: a seat that hasn't looked has seen nothing.
  abbrev pub ALookIsATurn : Type 0
  ALookIsATurn = (limits : Sizes) (blank : View K (Entry W)) → SeesMore limits blank blank → ⊥

-- The end of a pool is final. After any further events it is closed, no job waits, none runs, and each accepted job is finished.
abbrev pub EndStays : Type 0
EndStays = (limits : Sizes) (history : List Event) (event : Event) → IsOver history → IsAllowed limits history event → IsOver (history ++ event ∷ [])

-- If a legal history is closed, and after it no job waits and none runs, the pool is over: each accepted job is finished.
abbrev pub NothingLeftIsOver : Type 0
NothingLeftIsOver = (limits : Sizes) (history : List Event) → IsLegal limits history → is_closed history ≡ true → waiting history ≡ [] → running history ≡ [] → IsOver history

module _ {W K : Type 0} where
  -- a worker's seat, still there or joined away, picked this job and ended it
  pub record IsRunBySeat (views gone : List (View K (Entry W))) (id : Id) : Type 0 where
    pub index : ℕ
    pub seat : View K (Entry W)
    pub among : IsSeatAt views index seat ⊎ IsSeatAt gone index seat
    pub works : seat.rank ≡ rank.Worker
    pub picked : is_among id (picked_in seat.own) ≡ true
    pub ended : is_among id (ended_in seat.own) ≡ true

  -- What holds of a pool between any two steps of any threads. There is one log, which is legal, and each seat has seen a prefix of it. It consists of what the
  -- seats wrote, including those that are gone. Never more jobs run than the maximum size at the opening, and the jobs that were picked and not ended are among
  -- those that run. Each job is picked at most once, so by one seat. It is ended at most once, and only if it was picked. The jobs that were ended are those
  -- that the history has as finished, and each was picked and ended by a worker's seat.
  pub record HoldsOfTheLog (limits : Sizes) (views : List (View K (Entry W))) : Type 0 where
    pub log : List (Entry W)
    pub gone : List (View K (Entry W))
    pub legal : IsLegal limits (events_in log)
    pub begins : (index : ℕ) (v : View K (Entry W)) → IsSeatAt views index v → IsPrefix v.seen log
    pub fits : (index : ℕ) (v : View K (Entry W)) → IsSeatAt views index v → is_there v.phase ≡ true → MayHaveWritten v.rank v.own
    pub gone_fits : (index : ℕ) (v : View K (Entry W)) → IsSeatAt gone index v → MayHaveWritten v.rank v.own
    pub picks : (id : Id) → total (λ v. times id (picked_in v.own)) views + total (λ v. times id (picked_in v.own)) gone ≡ times id (picked_in log)
    pub ends : (id : Id) → total (λ v. times id (ended_in v.own)) views + total (λ v. times id (ended_in v.own)) gone ≡ times id (ended_in log)
    pub at_once : AreSizes limits → length (running (events_in log)) ≤ limits.max
    pub out_runs : (id : Id) → times id (ended_in log) < times id (picked_in log) → is_among id (running (events_in log)) ≡ true
    pub once : (id : Id) → times id (picked_in log) ≤ 1
    pub ended_few : (id : Id) → times id (ended_in log) ≤ times id (picked_in log)
    pub finishes : ended_in log ≡ finished (events_in log)
    pub one_seat : (id : Id) (index other : ℕ) (v u : View K (Entry W)) → IsSeatAt views index v → IsSeatAt views other u → is_among id (picked_in v.own) ≡ true → is_among id (picked_in u.own) ≡ true → index ≡ other
    pub all_run : (id : Id) → is_among id (finished (events_in log)) ≡ true → IsRunBySeat views gone id
