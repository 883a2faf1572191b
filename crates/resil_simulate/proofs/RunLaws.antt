-- The tally of a load while it is carried out.
use Rattle.std.proofs.Common.{◌≡◌, ◌≤◌, ◌<◌, ◌+◌, ◌*◌, [], ◌∷◌, ◌++◌, ℕ, Bool, true, false, List, if◌then◌else◌, length, ap, arith, length-append}
use Rattle.resil_jdk.specs.declared.event.JdkEvent.TheVariants.{TimeOut}
use Rattle.resil_jdk.specs.declared.timed.TimedJdkEvent.{TimedJdkEvent}
use Rattle.resil_virtual.specs.Pool.{IsPool, arrivals_of, history_of, left_in, plan_of}
use Rattle.resil_virtual.specs.Simulated.{opening}
use Rattle.resil_virtual.specs.declared.arrival.Arrival.{Arrival}
use Rattle.resil_virtual.specs.declared.pool.Simulation.{Simulation}
use Rattle.resil_virtual.specs.declared.virtual_pool.VirtualPool.{VirtualPool}
use Rattle.resil_simulate.specs.Tally.{IsTimed}
use Rattle.resil_simulate.proofs.TallyLaws.{as-many}

one-most : (b : Bool) (timed : TimedJdkEvent) → length (if b then timed ∷ [] else []) ≤ 1
one-most true timed = omega arith
one-most false timed = omega arith

-- what has happened so far
pub history-timed : (s : Simulation) → IsPool s → IsTimed (history_of s)
history-timed s is = record { legal = ((plan_of s).limits, is.parts.sound.sizes, is.parts.sound.legal); same = as-many (history_of s); ascending = is.parts.sound.ascending }

-- it is short, with what is left
pub few-at-first : (s : Simulation) (pool : VirtualPool) (arrivals : List Arrival) → IsPool s → history_of s ≡ opening pool → arrivals_of s ≡ arrivals → length (history_of s) + left_in s ≤ 5 * length arrivals + 1
few-at-first s pool arrivals is opens load =
    let one = one-most pool.time_out (record { event = TimeOut true; at = 0 }) in
    omega (arith, is.counted, ap length opens, ap length load, one)

-- and stays so
pub few-then : (s next : Simulation) (timed : TimedJdkEvent) (n : ℕ) → history_of next ≡ history_of s ++ timed ∷ [] → left_in next < left_in s → length (history_of s) + left_in s ≤ n → length (history_of next) + left_in next ≤ n
few-then s next timed n more less few = omega (arith, ap length more, length-append (history_of s) (timed ∷ []), less, few)
