-- What numbers say about a history: whether it is closed, its workers, the jobs that run, those that were accepted, and its sizes.
use Rattle.std.specs.Prelude.{ℕ, ◌≡◌, ◌≤◌, List, Bool, length, filter}
use Rattle.resil_rule.specs.History.{started, queued, taken, accepted, is_idle_end, workers, running, is_closed, core_size, max_size}
use Rattle.resil_rule.specs.Limits.{Sizes}
use Rattle.resil_rule.specs.declared.event.Event.{Event}

-- What numbers say about a history. Also, at most as many workers ended as were started, at most as many jobs
-- run as there are workers, and at most as many jobs were taken as were queued.
pub record AreNumbersOf (history : List Event) (closed : Bool) (worker_count running_count accepted_count : ℕ) : Type 0 where
  pub closed_is : closed ≡ is_closed history
  pub workers_are : worker_count ≡ workers history
  pub running_are : running_count ≡ length (running history)
  pub accepted_are : accepted_count ≡ length (accepted history)
  pub ended_few : length (filter is_idle_end history) ≤ length (started history)
  pub running_few : running_count ≤ worker_count
  pub taken_few : length (taken history) ≤ length (queued history)

-- What two sizes say about a history: they are its sizes after it.
pub record AreSizesOf (limits : Sizes) (history : List Event) (core max : ℕ) : Type 0 where
  pub core_is : core ≡ core_size limits history
  pub max_is : max ≡ max_size limits history
