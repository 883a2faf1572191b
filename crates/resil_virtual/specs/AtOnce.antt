-- A pool whose workers take no time to wake: what is due next, by what has happened so far, and its history.
use Rattle.std.specs.Prelude.{ℕ, ◌≡◌, ◌<◌, ◌↔◌, ◌+◌, ◌-◌, ◌^◌, ◌++◌, ◌∷◌, [], List, Option, Some, None, drop, length, map, option_map, option_to_list, take, if◌then◌else◌}
use Rattle.std.specs.List.{filter_map}
use Rattle.resil_jdk.specs.Limits.{AreJdkLimits}
use Rattle.resil_jdk.specs.declared.event.JdkEvent.{JdkEvent}
use Rattle.resil_jdk.specs.declared.event.JdkEvent.TheVariants.{Submit, Take, Finish, IdleEnd}
use Rattle.resil_jdk.specs.declared.event.JdkReply.TheVariants.{First, Handed}
use Rattle.resil_jdk.specs.Timed.{events_in}
use Rattle.resil_jdk.specs.declared.timed.TimedJdkEvent.{TimedJdkEvent}
use Rattle.resil_virtual.specs.Due.{earliest, end_at, end_from, finishes, front, has_spare, is_at, last_at, still_ends, submissions_due, take_at, without_first}
use Rattle.resil_virtual.specs.Load.{IsLoad}
use Rattle.resil_virtual.specs.Simulated.{GoesOn, opening}
use Rattle.resil_virtual.specs.declared.arrival.Arrival.{Arrival}
use Rattle.resil_virtual.specs.declared.virtual_pool.VirtualPool.{VirtualPool}

-- The workers that have no job: when each of them may end, if ever. The one that has been idle longest is the first. It takes a job; a job
-- that goes directly to an idle worker goes to the one that fell idle last.
abbrev pub free_by : VirtualPool → List JdkEvent → List (Option ℕ) → JdkEvent → ℕ → List (Option ℕ)
free_by pool events free (Submit id First) at = free ++ Some (at + pool.idle_for) ∷ []
free_by pool events free (Submit id Handed) at = take (length free - 1) free
free_by pool events free (Take id) at = drop 1 free
free_by pool events free (Finish id) at = free ++ end_from pool events at ∷ []
free_by pool events free IdleEnd at = without_first (is_at at) free
free_by pool events free _ at = free

abbrev pub free_next : VirtualPool → List TimedJdkEvent → List (Option ℕ) → TimedJdkEvent → List (Option ℕ)
free_next pool before free timed = free_by pool (events_in before) (map (still_ends timed.at) free) timed.event timed.at

abbrev pub free_from : VirtualPool → List TimedJdkEvent → List (Option ℕ) → List TimedJdkEvent → List (Option ℕ)
free_from pool before free [] = free
free_from pool before free (timed ∷ history) = free_from pool (before ++ timed ∷ []) (free_next pool before free timed) history

abbrev pub free_after : VirtualPool → List TimedJdkEvent → List (Option ℕ)
free_after pool history = free_from pool [] [] history

-- An idle worker takes the job that waits longest, at once.
abbrev pub takes_due : List TimedJdkEvent → List (Option ℕ) → List TimedJdkEvent
takes_due before [] = []
takes_due before (end ∷ free) = option_to_list (option_map (λ id. take_at id (last_at before)) (front (events_in before)))

-- An idle worker ends when its time comes, if there are more workers than may stay.
abbrev pub free_ends : VirtualPool → List TimedJdkEvent → List (Option ℕ) → List TimedJdkEvent
free_ends pool before free = if has_spare pool (events_in before) then map end_at (filter_map (λ end. end) free) else []

-- All that is due. If several things are due at one moment, they happen in this order.
abbrev pub all_at_once : VirtualPool → List Arrival → List TimedJdkEvent → List TimedJdkEvent
all_at_once pool arrivals before =
    takes_due before (free_after pool before) ++ (finishes arrivals before ++ (submissions_due pool arrivals before ++ free_ends pool before (free_after pool before)))

abbrev pub next_at_once : VirtualPool → List Arrival → List TimedJdkEvent → Option TimedJdkEvent
next_at_once pool arrivals before = earliest (λ timed. timed.at) (all_at_once pool arrivals before)

-- What is due next happens, until nothing is.
abbrev pub GoesOnAtOnce : VirtualPool → List Arrival → List TimedJdkEvent → List TimedJdkEvent → Type 0
GoesOnAtOnce pool arrivals before [] = next_at_once pool arrivals before ≡ None
GoesOnAtOnce pool arrivals before (timed ∷ history) = (next_at_once pool arrivals before ≡ Some timed) × GoesOnAtOnce pool arrivals (before ++ timed ∷ []) history

-- In a pool whose time to wake is 0 a load has the history of this definition, and no other.
abbrev pub SameAtOnce : Type 0
SameAtOnce = (pool : VirtualPool) (arrivals : List Arrival) → pool.wakes ≡ 0 → AreJdkLimits pool.limits → pool.idle_for < 2 ^ 64 → IsLoad pool.idle_for pool.wakes arrivals
    → (history : List TimedJdkEvent) → GoesOn pool arrivals (opening pool) history ↔ GoesOnAtOnce pool arrivals (opening pool) history
