-- The events of a history with times, and their times.
use Rattle.std.specs.Prelude.{ℕ, List, map}
use Rattle.resil_jdk.specs.declared.event.JdkEvent.{JdkEvent}
use Rattle.resil_jdk.specs.declared.timed.TimedJdkEvent.{TimedJdkEvent}

abbrev pub events_in : List TimedJdkEvent → List JdkEvent
events_in history = map (λ timed. timed.event) history

abbrev pub times_in : List TimedJdkEvent → List ℕ
times_in history = map (λ timed. timed.at) history
