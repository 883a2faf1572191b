-- How many jobs run after each event of a history, by how they started: those that started in this way, less those of them that are
-- finished.
use Rattle.std.specs.Prelude.{ℕ, ◌≡◌, ◌<◌, ◌+◌, ◌-◌, ◌^◌, Bool, true, false, List, Option, Some, [], filter, length, option_and_then, slice_get, take}
use Rattle.std.specs.List.{filter_map}
use Rattle.std.specs.Option.{option_map}
use Rattle.resil_rule.specs.declared.event.Id.{Id}
use Rattle.resil_jdk.specs.History.{finished_id}
use Rattle.resil_jdk.specs.declared.event.JdkEvent.{JdkEvent}
use Rattle.resil_stats.specs.Bars.{start_at}
use Rattle.resil_stats.specs.Stats.{made_after}
use Rattle.resil_stats.specs.Spans.{begun_at}
use Rattle.resil_stats.specs.declared.areas.Running.{Running}
use Rattle.resil_stats.specs.declared.bars.Start.{Start}
use Rattle.resil_stats.specs.declared.bars.Start.TheVariants.{Core, Extra, Queued, Handed}

abbrev pub is_same_start : Start → Start → Bool
is_same_start Core Core = true
is_same_start Extra Extra = true
is_same_start Queued Queued = true
is_same_start Handed Handed = true
is_same_start _ _ = false

-- How many jobs started in each way.
pub record IsTally (starts : List Start) (running : Running) : Type 0 where
  pub core : running.core ≡ length (filter (is_same_start Core) starts)
  pub extra : running.extra ≡ length (filter (is_same_start Extra) starts)
  pub queued : running.queued ≡ length (filter (is_same_start Queued) starts)
  pub handed : running.handed ≡ length (filter (is_same_start Handed) starts)

-- the numbers are those of some starts that may be followed by one more
abbrev pub MayBeTallied : Running → Type 0
MayBeTallied running = (starts : List Start) × IsTally starts running × (length starts + 1 < 2 ^ 64)

-- the jobs of a history that started, each with how it did
abbrev pub begun : List JdkEvent → List (Id × Start)
begun history = filter_map start_at history

-- how the jobs of a history started, in order
abbrev pub started : List JdkEvent → List Start
started history = filter_map (λ event. option_map (λ job. job.1) (start_at event)) history

abbrev pub finished_job : JdkEvent → Option Id
finished_job = finished_id

-- how the job had started that is finished at an event, by the events before it
abbrev pub finished_start : List JdkEvent → JdkEvent → Option Start
finished_start before event = option_and_then (begun_at (begun before)) (finished_job event)

-- how the jobs of a history had started that are finished, in the order of their finishes
abbrev pub finished : List JdkEvent → List Start
finished history = made_after finished_start [] history

-- how many jobs that started in this way run after a history
abbrev pub running_by : Start → List JdkEvent → ℕ
running_by start history = length (filter (is_same_start start) (started history)) - length (filter (is_same_start start) (finished history))

-- How many jobs run after a history, by how they started.
pub record IsRunningAfter (history : List JdkEvent) (running : Running) : Type 0 where
  pub core : running.core ≡ running_by Core history
  pub extra : running.extra ≡ running_by Extra history
  pub queued : running.queued ≡ running_by Queued history
  pub handed : running.handed ≡ running_by Handed history

-- how many jobs run after each event
pub record AreAreasOf (history : List JdkEvent) (areas : List Running) : Type 0 where
  pub each : length areas ≡ length history
  pub after : (i : ℕ) (running : Running) → slice_get areas i ≡ Some running → IsRunningAfter (take (i + 1) history) running
