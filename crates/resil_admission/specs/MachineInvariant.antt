-- What is true of a machine between any two calls.
use Rattle.std.specs.Prelude.{ℕ, ◌≡◌, ◌≤◌, ◌+◌, true}
use Rattle.resil_admission.specs.Words.{accepted, times, IsStateOf, Id}
use Rattle.resil_rule.specs.Limits.{AreLimits}
use Rattle.resil_rule.specs.RuleView.{RuleView, owed, ids_of as ids_waiting}
use Rattle.resil_admission.specs.JobsInvariant.{unpicked_in}
use Rattle.resil_admission.specs.MachineView.{ids_of}
use Rattle.resil_admission.specs.declared.machine.Machine.TheInside.{Inside}

-- how often an id is among those not picked yet
abbrev pub times_unpicked : {W : Type 0} → RuleView W → Id → ℕ
times_unpicked v id = times id (ids_waiting v.unpicked) + times id (ids_waiting v.waiting)

-- what is true of a machine between any two calls
pub record MachineInvariant (m : Inside) : Type 0 where
  -- the sizes are in the ranges of limits
  pub limits : AreLimits m.rule.limits
  -- the rule's state is that after the history
  pub state : IsStateOf m.history.events m.rule
  -- the history has room for the events that may follow without another submission or resize
  pub room : owed m.rule ≤ m.history.room
  -- the jobs are those that were accepted, and each one not picked yet is here
  pub accepted : ids_of m.jobs.jobs ≡ accepted m.history.events
  pub unpicked : (id : Id) → 1 ≤ times_unpicked m.rule id → unpicked_in m.jobs.kept id ≡ true
