-- The numbers of a history, with the times of its events.
use Rattle.std.specs.Prelude.{ℕ, zero, suc, ◌≡◌, ◌+◌, ◌-◌, ◌*◌, ◌/◌, ◌==◌, Bool, true, false, List, Option, Some, None, if◌then◌else◌, drop, filter, length, slice_get, slice_index, take}
use Rattle.std.specs.Option.{option_map_or}
use Rattle.resil_rule.specs.Timed.{AreAscending}
use Rattle.resil_rule.specs.Limits.{Sizes}
use Rattle.resil_jdk.specs.Admission.{IsLegal}
use Rattle.resil_jdk.specs.History.{running, waiting, workers}
use Rattle.resil_jdk.specs.Limits.{AreJdkLimits}
use Rattle.resil_jdk.specs.declared.event.JdkEvent.{JdkEvent}
use Rattle.resil_jdk.specs.declared.event.JdkEvent.TheVariants.{Finish}
use Rattle.resil_stats.specs.Spans.{AreRanksOf, jdk_waits}
use Rattle.resil_stats.specs.Stats.{IsMost, is_full, is_submit}
use Rattle.resil_simulate.specs.declared.numbers.PoolNumbers.{PoolNumbers}

-- A legal history of a pool, and the times of its events, which ascend.
pub record HasTimes (history : List JdkEvent) (times : List ℕ) : Type 0 where
  pub legal : (limits : Sizes) × AreJdkLimits limits × IsLegal limits history
  pub same : length times ≡ length history
  pub ascending : AreAscending times

-- how many jobs run
abbrev pub running_count : List JdkEvent → ℕ
running_count history = length (running history)

abbrev pub is_finish : JdkEvent → Bool
is_finish (Finish id) = true
is_finish _ = false

-- A number over the time up to the event at an index: its value after each event before that one, times the time to the next event.
abbrev pub area : (List JdkEvent → ℕ) → List JdkEvent → List ℕ → ℕ → ℕ
area number history times zero = 0
area number history times (suc index) =
    area number history times index + number (take (suc index) history) * (slice_index times (suc index) - slice_index times index)

-- the same up to the last finish among this many first events, 0 if there is none
abbrev pub to_finish : (List JdkEvent → ℕ) → List JdkEvent → List ℕ → ℕ → ℕ
to_finish number history times zero = 0
to_finish number history times (suc count) =
    if option_map_or is_finish (slice_get history count) false then area number history times count else to_finish number history times count

-- the running jobs and the workers over the time up to the last finish
abbrev pub run_time : List JdkEvent → List ℕ → ℕ
run_time history times = to_finish running_count history times (length history)

abbrev pub worker_time : List JdkEvent → List ℕ → ℕ
worker_time history times = to_finish workers history times (length history)

-- the thousandths of the workers' time in which they run jobs, rounded down; none if they have no time
abbrev pub busy : List JdkEvent → List ℕ → Option ℕ
busy history times = if worker_time history times == 0 then None else Some (run_time history times * 1000 / worker_time history times)

-- The numbers of a history. The first events restate a state, and their submissions don't count in any submission, refusal or wait.
pub record AreNumbersOf (restated : ℕ) (history : List JdkEvent) (times : List ℕ) (numbers : PoolNumbers) : Type 0 where
  pub submitted : numbers.submitted ≡ length (filter is_submit (drop restated history))
  pub refused : numbers.refused ≡ length (filter is_full (drop restated history))
  pub waits : AreRanksOf (jdk_waits restated times history) numbers.waits
  pub most_waiting : IsMost (λ events. length (waiting events)) history numbers.most_waiting
  pub most_workers : IsMost workers history numbers.most_workers
  pub busy : numbers.busy ≡ busy history times
