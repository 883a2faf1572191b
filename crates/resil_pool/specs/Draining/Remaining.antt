-- What a drain runs itself: the jobs that are left.
use Rattle.std.specs.Prelude.{◌≡◌, ◌+◌, ◌++◌, ℕ, List, [], ◌∷◌, Some, All, Contains, length, map}
use Rattle.resil_pool.specs.Words.{AdmitError, IsPrefix, Asked, finished, taken, submissions, MachineView, with_run, plan_of, IsPicked, IsFinishRefusal, Accepted, Id, Event, Row, RunView}
use Rattle.resil_pool.specs.Lock.{run_of}
use Rattle.resil_pool.specs.NamedCallers.{KeepsNames}
use Rattle.resil_pool.specs.Worker.{asked_in}

-- the jobs, after each of these runs was kept
abbrev pub with_runs : List Accepted → List Row → List Accepted
with_runs jobs [] = jobs
with_runs jobs (row ∷ rows) = with_runs (with_run jobs row.id row.run) rows

-- these runs were made with the permitter, one after the other; the machine has their finishes, in their order, and keeps each of them
pub record Ran {P : Type 0} (Between : P → List Asked → P → Type 0) (permitter : P) (old : MachineView) (made : List Row) (permitter' : P) (new : MachineView) : Type 0 where
  pub answered : Between permitter (asked_in made) permitter'
  pub finished : finished new.history ≡ finished old.history ++ map (λ row. row.id) made
  pub jobs : new.jobs ≡ with_runs old.jobs made
  pub kept : All (λ row. run_of new.jobs row.id ≡ Some row.run) made

-- from this history on all finishes are of these runs, made with the permitter, one after the other; each is a result
pub record RanInDrain {P : Type 0} (Between : P → List Asked → P → Type 0) (permitter permitter' : P) (before : List Event) (made : List Row) (history : List Event) (rows : List Row) : Type 0 where
  pub answered : Between permitter (asked_in made) permitter'
  pub begins : IsPrefix before history
  pub finished : finished history ≡ finished before ++ map (λ row. row.id) made
  pub results : All (λ row. Contains rows row) made

-- how often a job was picked: one with a worker of its own, or one from the queue
abbrev pub picks : MachineView → ℕ
picks m = m.picked + length (taken m.history)

-- from the one machine to the other, as many jobs were finished as were picked
abbrev pub FinishedEachPick : MachineView → MachineView → Type 0
FinishedEachPick old new = picks new + length (finished old.history) ≡ picks old + length (finished new.history)

-- what a drain runs itself leaves: more history, with as many finishes as picks, and with the same submissions, which name callers if they did before
pub record HasRunOn (old new : MachineView) : Type 0 where
  pub limits : new.limits ≡ old.limits
  pub begins : IsPrefix old.history new.history
  pub even : FinishedEachPick old new
  pub names : (callers : ℕ) → KeepsNames callers old new
  pub submissions : (caller : ℕ) → submissions new.history caller ≡ submissions old.history caller

-- from the one machine on as many jobs were finished as were picked; then one more was picked, which left the other machine; and that one refuses a
-- run of the job's plan
pub record LeftRefused (old new : MachineView) : Type 0 where
  pub before : MachineView
  pub id : Id
  pub run : RunView
  pub why : AdmitError
  pub begins : IsPrefix old.history before.history
  pub even : FinishedEachPick old before
  pub picked : IsPicked before id new
  pub plan : plan_of before.jobs id ≡ Some run.plan
  pub refused : IsFinishRefusal new id run.plan why
