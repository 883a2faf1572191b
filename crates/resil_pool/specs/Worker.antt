-- What a worker finds when it polls for a job, and with which permitter it runs one.
use Rattle.std.specs.Prelude.{◌≡◌, ◌⊎◌, ◌++◌, ◌∷◌, [], ℕ, Bool, List, All, Contains, Option, Some, None, option_map, find, filter, flat_map, map, not, true}
use Rattle.resil_lock.specs.declared.work.Look.{Look}
use Rattle.resil_lock.specs.declared.work.Look.TheVariants.{Nothing}
use Rattle.resil_pool.specs.Words.{AdmitError, Accepted, plan_of, IsPrefix, Sizes, is_closed, taken, IsAllowed, Row, Id, Event, Take, IdleEnd, MachineView, IsFinishRefusal, with_event, PlanView, RunView, Asked, LoggedEvent}
use Rattle.resil_pool.specs.Lock.{events_in, plans_in, plan_entry, runs_in, MatchesLog, View, IsMoved, WritesAtMost}
use Rattle.resil_pool.specs.declared.worker.WorkerRounds.{WorkerRounds}

-- no job may be taken after this history
abbrev pub AllowsNoTake : Sizes → List Event → Type 0
AllowsNoTake limits history = (id : Id) → ¬ IsAllowed limits history (Take id)

abbrev pub HasNoTake : MachineView → Type 0
HasNoTake m = AllowsNoTake m.limits m.history

-- An idle worker has asked to end: if the rule of admission allows it, its end was written, otherwise nothing. No job may then be taken, and a closed
-- pool is still closed.
pub record EndsIdle (old new : MachineView) (entries : List LoggedEvent) : Type 0 where
  pub ends : IsAllowed old.limits old.history IdleEnd → new ≡ with_event old IdleEnd
  pub wrote : IsMoved old entries new
  pub rests : WritesAtMost IdleEnd entries
  pub no_take : HasNoTake new
  pub closed : is_closed old.history ≡ true → is_closed new.history ≡ true

-- the pool is closed, and nothing waits that may be taken
pub record IsAtEnd (limits : Sizes) (history : List Event) : Type 0 where
  pub closed : is_closed history ≡ true
  pub no_take : AllowsNoTake limits history

-- P holds if the poll found no job and the worker goes on polling
abbrev pub OnNoJob : {J : Type 0} → Look J → Type 0 → Type 0
OnNoJob Nothing P = P
OnNoJob _ P = Unit {0}

-- the log keeps this plan with the accepted submission of this id: the jobs with plans kept in the log have it under that id
pub record KeepsPlan (log : List LoggedEvent) (id : Id) (plan : PlanView) : Type 0 where
  pub jobs : List Accepted
  pub kept : map plan_entry jobs ≡ plans_in log
  pub there : plan_of jobs id ≡ Some plan

-- the jobs that were taken from the queue, in this order
abbrev pub takes_in : List LoggedEvent → List Id
takes_in log = taken (events_in log)

-- this job was taken from the queue in between, or none
abbrev pub TakesAtMost : Id → List Id → List Id → Type 0
TakesAtMost id before after = (after ≡ before) ⊎ (after ≡ before ++ id ∷ [])

-- a machine that represents this log refuses to end this job with this run
pub record IsRealRefusal (limits : Sizes) (log : List LoggedEvent) (id : Id) (run : RunView) : Type 0 where
  pub machine : MachineView
  pub why : AdmitError
  pub home : MatchesLog limits log machine
  pub refused : IsFinishRefusal machine id run.plan why

-- the run was refused for a reason; the seat had seen no more than this
abbrev pub WasRefused : Sizes → List LoggedEvent → RunView → Type 0
WasRefused limits seen run = (id : Id) × (log : List LoggedEvent) × IsPrefix log seen × IsRealRefusal limits log id run

-- the answers that these runs got, one run after the other
abbrev pub asked_in : List Row → List Asked
asked_in made = flat_map (λ row. row.run.asked) made

-- A job was run with a permitter, which gave the answers of its run in between, and no others. The seat that had ended the jobs of some runs has also
-- ended this one, with its run.
pub record HasRunJob {P : Type 0} (Between : P → List Asked → P → Type 0) (permitter permitter' : P) (id : Id) (job : PlanView) (before after : List Row) : Type 0 where
  pub run : RunView
  pub plan : run.plan ≡ job
  pub answered : Between permitter run.asked permitter'
  pub ended : after ≡ before ++ record { id = id; run = run } ∷ []

-- Jobs were run with a permitter, one after the other, which gave the answers of their runs in between, and no others. Each run has a mark that says
-- whether the pool kept it. The seat has ended the jobs of those that were kept, and no others.
pub record HasRunJobs {P : Type 0} (Between : P → List Asked → P → Type 0) (permitter permitter' : P) (before after : List Row) : Type 0 where
  pub made : List (Row × Bool)
  pub answered : Between permitter (asked_in (map (λ m. m.0) made)) permitter'
  pub ended : after ≡ before ++ map (λ m. m.0) (filter (λ m. m.1) made)

-- the first of these runs that the pool didn't keep; each has a mark that says whether it did
abbrev pub first_refused : List (Row × Bool) → Option RunView
first_refused made = option_map (λ m. m.0.run) (find (λ m. not m.1) made)

-- jobs were run with a permitter, and this is the first run that the pool didn't keep, if there is one
abbrev pub HasFirstRefusal : {P : Type 0} → (P → List Asked → P → Type 0) → P → P → List Row → List Row → Option RunView → Type 0
HasFirstRefusal Between permitter permitter' before after refused = (ran : HasRunJobs Between permitter permitter' before after) × (refused ≡ first_refused ran.made)

-- the last event is this one
abbrev pub EndsWith : List Event → Event → Type 0
EndsWith history event = (before : List Event) × (history ≡ before ++ event ∷ [])

-- each job that was taken from the queue in between is among those that were run
abbrev pub RunsItsTakes : List Id → List Id → List (Row × Bool) → Type 0
RunsItsTakes before after made = (took : List Id) × (after ≡ before ++ took) × All (λ id. Contains (map (λ m. m.0.id) made) id) took

-- jobs were run with a permitter, among them each that the seat took from the queue, and this is the first run that the pool didn't keep, if there is
-- one
abbrev pub HasRunTakes : {P : Type 0} → (P → List Asked → P → Type 0) → P → P → List Row → List Row → List Id → List Id → Option RunView → Type 0
HasRunTakes Between permitter permitter' before after takes takes' refused = (ran : HasRunJobs Between permitter permitter' before after) × (refused ≡ first_refused ran.made) × RunsItsTakes takes takes' ran.made

-- No job was run: the permitter got no question, no job was taken from the queue, and none was ended.
pub record HasRunNone {P : Type 0} (permitter permitter' : P) (before after : List Row) (takes takes' : List Id) : Type 0 where
  pub took_none : takes' ≡ takes
  pub unasked : permitter' ≡ permitter
  pub ended : after ≡ before

-- One job was run with the permitter, and no other was taken from the queue.
pub record HasRunOne {P : Type 0} (Between : P → List Asked → P → Type 0) (permitter permitter' : P) (before after : List Row) (takes takes' : List Id) : Type 0 where
  pub id : Id
  pub job : PlanView
  pub ran : HasRunJob Between permitter permitter' id job before after
  pub took : TakesAtMost id takes takes'

-- What one round of a worker leaves: its seat has seen more, at most one job was run, and the permitter holds what it held before.
pub record HasMadeRound {P : Type 0} (Between : P → List Asked → P → Type 0) (held : P → ℕ → ℕ) (permitter permitter' : P) (before after : View) : Type 0 where
  pub limits : after.key ≡ before.key
  pub begins : IsPrefix before.seen after.seen
  pub ran : HasRunNone permitter permitter' (runs_in before.own) (runs_in after.own) (takes_in before.own) (takes_in after.own) ⊎ HasRunOne Between permitter permitter' (runs_in before.own) (runs_in after.own) (takes_in before.own) (takes_in after.own)
  pub holds : (id : ℕ) → held permitter' id ≡ held permitter id

-- What all rounds of a worker leave: its seat has seen more, jobs were run with the permitter, which holds what it held before, and no run was
-- refused.
pub record HasWorked {P H : Type 0} (Between : P → List Asked → P → Type 0) (held : P → ℕ → ℕ) (x y : WorkerRounds P H) : Type 0 where
  pub pool : y.pool ≡ x.pool
  pub seat : y.seat.ghost_name ≡ x.seat.ghost_name
  pub permitter : y.permitter.ghost_name ≡ x.permitter.ghost_name
  pub table : y.seat.now.table_id ≡ x.seat.now.table_id
  pub limits : y.seat.now.me.0.key ≡ x.seat.now.me.0.key
  pub begins : IsPrefix x.seat.now.me.0.seen y.seat.now.me.0.seen
  pub took : HasRunTakes Between x.permitter.now y.permitter.now (runs_in x.seat.now.me.0.own) (runs_in y.seat.now.me.0.own) (takes_in x.seat.now.me.0.own) (takes_in y.seat.now.me.0.own) None
  pub holds : (id : ℕ) → held y.permitter.now id ≡ held x.permitter.now id
