-- Which histories are legal in some pool of the JDK, of any sizes, and the least sizes that such a pool has.
use Rattle.std.specs.Prelude.{ℕ, suc, ◌≡◌, ◌≤◌, ◌<◌, ◌+◌, ◌-◌, ◌^◌, ◌==◌, ◌++◌, ◌∷◌, [], Bool, not, List, if◌then◌else◌, filter, filter_map, length, nat_lt, take}
use Rattle.resil_rule.specs.Limits.{Sizes}
use Rattle.resil_jdk.specs.Admission.{IsLegal}
use Rattle.resil_jdk.specs.History.{finished, is_begin, is_end, left, new_core, queued, run_at_once, taken, workers}
use Rattle.resil_jdk.specs.Limits.{AreJdkLimits}
use Rattle.resil_jdk.specs.declared.event.JdkReply.TheVariants.{Core, First, Queued, Extra, Full}
use Rattle.resil_jdk.specs.declared.event.JdkEvent.{JdkEvent}
use Rattle.resil_jdk.specs.declared.event.JdkEvent.TheVariants.{Submit, Resized, Start}
use Rattle.resil_simulate.specs.declared.legality.AskedSizes.{AskedSizes}
use Rattle.resil_simulate.specs.declared.legality.Tally.{Tally}

-- A history that is legal in some pool.
abbrev pub IsLegalSomewhere : List JdkEvent → Type 0
IsLegalSomewhere history = (limits : Sizes) × AreJdkLimits limits × IsLegal limits history

-- This is the position, from 1, of the first event up to which a history is legal in no pool.
pub record IsIllegalAt (history : List JdkEvent) (position : ℕ) : Type 0 where
  pub within : (1 ≤ position) × (position ≤ length history)
  pub before : IsLegalSomewhere (take (position - 1) history)
  pub here : ¬ IsLegalSomewhere (take position history)

-- ---- The least sizes.

-- How often workers begin and end, jobs are queued, leave the queue, come to a worker and are finished, and sizes are set.
pub record AreTallied (history : List JdkEvent) (tally : Tally) : Type 0 where
  pub begun : tally.begun ≡ length (filter is_begin history)
  pub ended : tally.ended ≡ length (filter is_end history)
  pub queued : tally.queued ≡ length (queued history)
  pub left : tally.left ≡ length (left history)
  pub at_once : tally.at_once ≡ length (run_at_once history)
  pub taken : tally.taken ≡ length (taken history)
  pub finished : tally.finished ≡ length (finished history)
  pub resizes : tally.resizes ≡ length (filter_map new_core history)

-- whether the sizes after a history are those of a resize
abbrev pub is_resized : List JdkEvent → Bool
is_resized history = not (length (filter_map new_core history) == 0)

-- one more worker than there are, of the sizes at the opening, 0 if the sizes are those of a resize
abbrev pub one_more : List JdkEvent → ℕ
one_more before = if is_resized before then 0 else suc (workers before)

-- one more place than jobs wait
abbrev pub one_place : List JdkEvent → ℕ
one_place before = suc (length (queued before) - length (left before))

-- a place if a worker is idle, because without a queue the worker would get the job
abbrev pub no_hand_off : List JdkEvent → ℕ
no_hand_off before =
    if nat_lt (length (run_at_once before) + length (taken before) + length (filter is_end before)) (length (finished before) + length (filter is_begin before)) then 1 else 0

-- the least sizes at the opening that an event after others needs: each is at least as large
abbrev pub asked_at : List JdkEvent → JdkEvent → AskedSizes
asked_at before (Submit id Core) = record { core = one_more before; max = 1; queue = 0 }
asked_at before (Submit id First) = record { core = 0; max = 1; queue = one_place before }
asked_at before (Submit id Queued) = record { core = 0; max = 1; queue = one_place before }
asked_at before (Submit id Extra) = record { core = 0; max = one_more before; queue = no_hand_off before }
asked_at before (Submit id Full) = record { core = 0; max = 1; queue = no_hand_off before }
asked_at before Start = record { core = one_more before; max = 1; queue = 0 }
asked_at before (Resized core max) = record { core = 0; max = max; queue = 0 }
asked_at before _ = record { core = 0; max = 1; queue = 0 }

-- sizes that are at least as large
abbrev pub AreEnough : AskedSizes → Sizes → Type 0
AreEnough least sizes = (least.core ≤ sizes.core) × (least.max ≤ sizes.max) × (least.queue ≤ sizes.queue)

-- what each of some events needs after those before it is at most this
abbrev pub IsAsked : List JdkEvent → List JdkEvent → AskedSizes → Type 0
IsAsked before [] most = Unit {0}
IsAsked before (event ∷ events) most =
    ((asked_at before event).core ≤ most.core) × ((asked_at before event).max ≤ most.max) × ((asked_at before event).queue ≤ most.queue)
    × IsAsked (before ++ event ∷ []) events most

-- the tally is that of a history that may have one more event
abbrev pub MayBeTallied : Tally → Type 0
MayBeTallied tally = (history : List JdkEvent) × AreTallied history tally × (length history + 1 < 2 ^ 64)
