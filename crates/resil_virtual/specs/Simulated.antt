-- What the history of a load in virtual time is.
use Rattle.std.specs.Prelude.{ℕ, zero, suc, ◌≡◌, ◌≤◌, ◌++◌, ◌∷◌, [], true, List, Some, None, option_to_list, if◌then◌else◌}
use Rattle.resil_rule.specs.Timed.{AreAscending}
use Rattle.resil_jdk.specs.Admission.{IsLegal}
use Rattle.resil_jdk.specs.History.{kept_size, running, waiting, workers}
use Rattle.resil_jdk.specs.declared.event.JdkEvent.TheVariants.{TimeOut}
use Rattle.resil_jdk.specs.Timed.{events_in, times_in}
use Rattle.resil_jdk.specs.declared.timed.TimedJdkEvent.{TimedJdkEvent}
use Rattle.resil_virtual.specs.Due.{next_due, submissions_at, submissions_of}
use Rattle.resil_virtual.specs.declared.arrival.Arrival.{Arrival}
use Rattle.resil_virtual.specs.declared.virtual_pool.VirtualPool.{VirtualPool}

-- What is set before all else: that core workers time out, if they do.
abbrev pub opening : VirtualPool → List TimedJdkEvent
opening pool = if pool.time_out then record { event = TimeOut true; at = 0 } ∷ [] else []

-- What has happened after some steps: the opening, and then at each step what was due next.
abbrev pub history_after : VirtualPool → List Arrival → ℕ → List TimedJdkEvent
history_after pool arrivals zero = opening pool
history_after pool arrivals (suc steps) = history_after pool arrivals steps ++ option_to_list (next_due pool arrivals (history_after pool arrivals steps))

-- What is due next happens, until nothing is.
abbrev pub GoesOn : VirtualPool → List Arrival → List TimedJdkEvent → List TimedJdkEvent → Type 0
GoesOn pool arrivals before [] = next_due pool arrivals before ≡ None
GoesOn pool arrivals before (timed ∷ history) = (next_due pool arrivals before ≡ Some timed) × GoesOn pool arrivals (before ++ timed ∷ []) history

-- The history of a load in a pool: after the opening, what is due next happens, until nothing is. So it is legal; its submissions are those of the
-- load, in order, each at its time; no time goes back; and in the end each accepted job is finished, and there are no more workers than may stay.
pub record IsSimulated (pool : VirtualPool) (arrivals : List Arrival) (history : List TimedJdkEvent) : Type 0 where
  pub rest : List TimedJdkEvent
  pub opens : history ≡ opening pool ++ rest
  pub goes_on : GoesOn pool arrivals (opening pool) rest
  pub legal : IsLegal pool.limits (events_in history)
  pub submissions : submissions_at history ≡ submissions_of arrivals
  pub ascending : AreAscending (times_in history)
  pub none_waits : waiting (events_in history) ≡ []
  pub none_runs : running (events_in history) ≡ []
  pub few : workers (events_in history) ≤ kept_size pool.limits (events_in history)

-- One load and one pool have one history.
abbrev pub OneHistory : Type 0
OneHistory = (pool : VirtualPool) (arrivals : List Arrival) (h k : List TimedJdkEvent) → IsSimulated pool arrivals h → IsSimulated pool arrivals k → h ≡ k
