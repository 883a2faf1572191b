-- Which histories the rule's state may represent, and what a step adds to each of them.
use Rattle.std.specs.Prelude.{ℕ, ◌≡◌, ◌++◌, ◌∷◌, [], List, true, length}
use Rattle.resil_rule.specs.History.{is_among, times}
use Rattle.resil_rule.specs.declared.event.Id.{Id}
use Rattle.resil_jdk.specs.History.{queued, workers, waiting, running, is_closed, is_stopped, core_size, max_size, times_out, submissions}
use Rattle.resil_jdk.specs.Admission.{IsAllowed, IsLegal}
use Rattle.resil_jdk.specs.RuleView.{JdkView, made_by, queue_of}
use Rattle.resil_jdk.specs.declared.event.JdkEvent.{JdkEvent}

-- The history is legal, and the state has what the rule asks of it.
pub record IsStateOf (history : List JdkEvent) (v : JdkView) : Type 0 where
  pub legal : IsLegal v.limits history
  pub core_is : v.core ≡ core_size v.limits history
  pub max_is : v.max ≡ max_size v.limits history
  pub time_out_is : v.time_out ≡ times_out history
  pub closed_is : v.closed ≡ is_closed history
  pub stopped_is : v.stopped ≡ is_stopped history
  pub workers_are : v.workers ≡ workers history
  pub queue_is : queue_of v ≡ waiting history
  pub waits_are : (x : Id) → times x v.waits ≡ times x (waiting history)
  pub runs_are : (x : Id) → times x v.runs ≡ times x (running history)
  -- each job in the line was queued
  pub lined : (x : Id) → is_among x v.line ≡ true → is_among x (queued history) ≡ true
  pub made_are : (caller : ℕ) → made_by v caller ≡ length (submissions history caller)

-- One event further: it may follow each history that the state represented, and the state represents that history with it.
abbrev pub Follows : JdkView → JdkEvent → JdkView → Type 0
Follows before event after = (history : List JdkEvent) → IsStateOf history before → IsAllowed before.limits history event × IsStateOf (history ++ event ∷ []) after

-- No event: the state represents each history that it represented.
abbrev pub StaysAt : JdkView → JdkView → Type 0
StaysAt before after = (history : List JdkEvent) → IsStateOf history before → IsStateOf history after

-- The event may follow no history that the state represents.
abbrev pub IsBarred : JdkView → JdkEvent → Type 0
IsBarred v event = (history : List JdkEvent) → IsStateOf history v → ¬ IsAllowed v.limits history event
