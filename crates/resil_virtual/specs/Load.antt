-- The jobs of a load that a pool can run.
use Rattle.std.specs.Prelude.{ℕ, ◌≡◌, ◌<◌, ◌+◌, ◌*◌, ◌^◌, ◌==◌, suc, List, Some, [], ◌∷◌, filter, length, map, max, slice_get, sum, take}
use Rattle.resil_rule.specs.Timed.{AreAscending}
use Rattle.resil_virtual.specs.declared.arrival.Arrival.{Arrival}

-- when jobs come, and how long they run
abbrev pub times_of : List Arrival → List ℕ
times_of arrivals = map (λ a. a.at) arrivals

abbrev pub runs_of : List Arrival → List ℕ
runs_of arrivals = map (λ a. a.takes) arrivals

-- the earliest moments at which their runs may end
abbrev pub earliest_ends_of : List Arrival → List ℕ
earliest_ends_of arrivals = map (λ a. a.earliest_end) arrivals

-- the latest of some times, 0 if there is none
abbrev pub latest : List ℕ → ℕ
latest [] = 0
latest (time ∷ times) = max time (latest times)

-- the jobs of a caller
abbrev pub of_caller : ℕ → List Arrival → List Arrival
of_caller caller arrivals = filter (λ a. a.id.caller == caller) arrivals

-- A load: its jobs come in order, each under its caller's next number; and the time of each, or the latest of the earliest ends up to it if that is
-- later, all runs up to it, a time to wake for each job up to it and the time after which an idle worker may end together are a number of 64 bits.
pub record IsLoad (idle_for wakes : ℕ) (arrivals : List Arrival) : Type 0 where
  pub ascending : AreAscending (times_of arrivals)
  pub numbered : (k : ℕ) (a : Arrival) → slice_get arrivals k ≡ Some a → a.id.number ≡ suc (length (of_caller a.id.caller (take k arrivals)))
  pub in_time : (k : ℕ) (a : Arrival) → slice_get arrivals k ≡ Some a
      → max a.at (latest (earliest_ends_of (take (suc k) arrivals))) + sum (runs_of (take (suc k) arrivals)) + wakes * suc k + idle_for < 2 ^ 64
