-- Eight histories of small pools, to read next to the definitions.
use Rattle.std.specs.Prelude.{ℕ, List, [], ◌∷◌}
use Rattle.resil_rule.specs.Limits.{Sizes}
use Rattle.resil_rule.specs.declared.event.Id.{Id}
use Rattle.resil_rule.specs.declared.event.Reply.TheVariants.{Core, Queued, Extra, Full}
use Rattle.resil_rule.specs.declared.event.Event.{Event}
use Rattle.resil_rule.specs.declared.event.Event.TheVariants.{Submit, Take, Finish, IdleEnd, Close, Resized}

abbrev pub sizes : ℕ → ℕ → ℕ → Sizes
sizes core max queue = record { core = core; max = max; queue = queue }

-- a submission of caller 1
abbrev pub job : ℕ → Id
job number = record { caller = 1; number = number }

-- core size 1, maximum size 2, queue 1: the queue fills up before an extra worker comes, and then the pool is full
abbrev pub four_submissions : List Event
four_submissions = Submit (job 1) Core ∷ Submit (job 2) Queued ∷ Submit (job 3) Extra ∷ Submit (job 4) Full ∷ []

-- core size 2: a second worker comes although the first one is idle
abbrev pub core_before_reuse : List Event
core_before_reuse = Submit (job 1) Core ∷ Finish (job 1) ∷ Submit (job 2) Core ∷ []

-- core size 1, maximum size 1, queue 1: the worker is idle, but the queue is still full
abbrev pub idle_worker_full_queue : List Event
idle_worker_full_queue = Submit (job 1) Core ∷ Submit (job 2) Queued ∷ Finish (job 1) ∷ Submit (job 3) Full ∷ []

-- core size 1, maximum size 1, queue 1: a second job can't be queued
abbrev pub queued_twice : List Event
queued_twice = Submit (job 1) Core ∷ Submit (job 2) Queued ∷ Submit (job 3) Queued ∷ []

-- core size 1, maximum size 2, queue 1: after a resize to 1 and 1 there are two workers, and a submission finds the pool full; one
-- worker ends; after a resize to 2 and 2 a submission gets its own worker
abbrev pub machine_resized : List Event
machine_resized = Submit (job 1) Core ∷ Submit (job 2) Queued ∷ Submit (job 3) Extra ∷ Resized 1 1 ∷ Submit (job 4) Full ∷ Finish (job 1) ∷ Take (job 2)
    ∷ Finish (job 2) ∷ Finish (job 3) ∷ IdleEnd ∷ Resized 2 2 ∷ Submit (job 5) Core ∷ []

-- core size 1, maximum size 2, queue 1: the second submission gets a worker, since the core size is 2 by then
abbrev pub pool_resized : List Event
pool_resized = Submit (job 1) Core ∷ Resized 2 2 ∷ Submit (job 2) Core ∷ Close ∷ []

-- core size 1, maximum size 2, queue 1: the second submission gets the reply that it would get without the resize
abbrev pub answered_by_opening : List Event
answered_by_opening = Submit (job 1) Core ∷ Resized 2 2 ∷ Submit (job 2) Queued ∷ []

-- core size 1, maximum size 2, queue 1: one worker is left, which is no more than the core size
abbrev pub last_worker_ended : List Event
last_worker_ended = Submit (job 1) Core ∷ Finish (job 1) ∷ Resized 1 1 ∷ IdleEnd ∷ []
