-- What contracts see of the rule: what it keeps, without a history.
use Rattle.std.specs.Prelude.{ℕ, ◌≡◌, ◌+◌, ◌-◌, ◌*◌, ◌⊎◌, ◌<◌, ◌++◌, ◌∷◌, [], Bool, true, false, List, Option, Some, None, length, map, drop, replicate, slice_set, slice_index_or, nat_lt, if◌then◌else◌}
use Rattle.resil_rule.specs.Limits.{Sizes}
use Rattle.resil_rule.specs.Slots.{ids_out}
use Rattle.resil_rule.specs.declared.event.Id.{Id}
use Rattle.resil_rule.specs.declared.event.Reply.{Reply}
use Rattle.resil_rule.specs.declared.event.Reply.TheVariants.{Core, Queued, Extra, Full, Closed}
use Rattle.resil_rule.specs.declared.slots.Slot.{Slot}

-- The sizes that it was made with and the current ones, whether it is closed, how many workers there are; the jobs with their own worker that weren't
-- picked yet, and those in the queue, oldest first; the places of those that are out; and how many submissions each caller made.
pub record RuleView (W : Type 0) : Type 0 where
  pub limits : Sizes
  pub core : ℕ
  pub max : ℕ
  pub closed : Bool
  pub workers : ℕ
  pub unpicked : List (Id × W)
  pub waiting : List (Id × W)
  pub out : List (Option Id)
  pub made : List ℕ

-- whether a reply is one of the three that accept
abbrev pub is_acceptance : Reply → Bool
is_acceptance Core = true
is_acceptance Queued = true
is_acceptance Extra = true
is_acceptance _ = false

module _ {W : Type 0} where
  -- the ids of jobs, in their order
  abbrev pub ids_of : List (Id × W) → List Id
  ids_of jobs = map (λ job. job.0) jobs

  -- just made, for this many callers
  abbrev pub opened : Sizes → ℕ → RuleView W
  opened limits callers = record {
    limits = limits;
    core = limits.core;
    max = limits.max;
    closed = false;
    workers = 0;
    unpicked = [];
    waiting = [];
    out = replicate limits.max None;
    made = replicate callers 0;
  }

  -- how many workers have a job: one of their own that wasn't picked yet, or one that is out
  abbrev pub busy : RuleView W → ℕ
  busy v = length v.unpicked + length (ids_out v.out)

  -- how many events may come of what the rule has, whatever else is submitted: the take and the finish of each job that waits, the finish
  -- of each job that runs, the end of each worker, and the closing
  abbrev pub owed : RuleView W → ℕ
  owed v = 2 * length v.waiting + busy v + v.workers + (if v.closed then 0 else 1)

  -- how many submissions a caller made
  abbrev pub made_by : RuleView W → ℕ → ℕ
  made_by v caller = slice_index_or v.made caller 0

  -- the reply to the next submission: the first case that fits
  abbrev pub next_reply : RuleView W → Reply
  next_reply v =
      if v.closed then Closed
      else if nat_lt v.workers v.core then Core
      else if nat_lt (length v.waiting) v.limits.queue then Queued
      else if nat_lt v.workers v.max then Extra
      else Full

  -- a submission is counted
  abbrev pub counted : RuleView W → Id → RuleView W
  counted v id = record v { made = slice_set v.made id.caller id.number }

  -- a job gets its own worker
  abbrev pub with_start : RuleView W → Id → W → RuleView W
  with_start v id work = record v {
    made = slice_set v.made id.caller id.number;
    workers = v.workers + 1;
    unpicked = v.unpicked ++ (id, work) ∷ [];
  }

  -- a submission with its reply
  abbrev pub with_submission : RuleView W → Id → W → Reply → RuleView W
  with_submission v id work Core = with_start v id work
  with_submission v id work Queued = record v { made = slice_set v.made id.caller id.number; waiting = v.waiting ++ (id, work) ∷ [] }
  with_submission v id work Extra = with_start v id work
  with_submission v id work _ = counted v id

  -- the oldest job with its own worker is picked
  abbrev pub with_pick : RuleView W → Slot → RuleView W
  with_pick v slot = record v { unpicked = drop 1 v.unpicked; out = slice_set v.out slot.place (Some slot.id) }

  -- the job at the front of the queue is taken
  abbrev pub with_take : RuleView W → Slot → RuleView W
  with_take v slot = record v { waiting = drop 1 v.waiting; out = slice_set v.out slot.place (Some slot.id) }

  -- a job that is out is finished
  abbrev pub with_finish : RuleView W → Slot → RuleView W
  with_finish v slot = record v { out = slice_set v.out slot.place None }

  abbrev pub with_close : RuleView W → RuleView W
  with_close v = record v { closed = true }

  abbrev pub with_idle_end : RuleView W → RuleView W
  with_idle_end v = record v { workers = v.workers - 1 }

  abbrev pub with_sizes : RuleView W → ℕ → ℕ → RuleView W
  with_sizes v core max = record v { core = core; max = max }

  -- no job waits, a worker has no job, and either there are more workers than the core size or the pool is closed
  abbrev pub MayEndIdle : RuleView W → Type 0
  MayEndIdle v = (v.waiting ≡ []) × (busy v < v.workers) × ((v.core < v.workers) ⊎ (v.closed ≡ true))

  -- there is a job to pick: one with its own worker, or one that waits while a worker has no job
  abbrev pub HasOneToPick : RuleView W → Type 0
  HasOneToPick v = (0 < length v.unpicked) ⊎ ((0 < length v.waiting) × (busy v < v.workers))
