-- What the result of a try to take a permit says.
use Rattle.std.specs.Prelude.{◌≡◌, ◌≢◌, ℕ, ◌+◌, ◌<◌, ◌≤◌, List, length}
use mathlib.Core.List.{IsPrefix}
use Rattle.resil_permit.specs.declared.event.PermitEvent.{PermitEvent}
use Rattle.resil_permit.specs.declared.event.PermitEvent.TheVariants.{Took, Refused}
use Rattle.resil_permit.specs.declared.permits.Attempt.{Attempt}
use Rattle.resil_permit.specs.declared.permits.Attempt.TheVariants.{Taken, Full, Contended}
use Rattle.resil_permit.specs.declared.acquire.Acquire.{Acquire}
use Rattle.resil_permit.specs.declared.acquire.Acquire.TheVariants as acquired
use Rattle.resil_permit.specs.History.{holders, in_use_count, free_count}
use Rattle.resil_permit.specs.Passes.{PassView, HasSeenMore, AppendsEvent}

-- after what was seen before, the number of free permits changed: two prefixes of what is seen now, neither shorter than what was seen before, differ
-- in it
abbrev pub FreeChanged : ℕ → List PermitEvent → List PermitEvent → Type 0
FreeChanged max old new =
    (first : List PermitEvent) × (second : List PermitEvent)
    × IsPrefix first new × IsPrefix second new × (length old ≤ length first) × (length old ≤ length second) × (free_count max first ≢ free_count max second)

-- taken: fewer were held than were in use. Full: exactly those in use were held. Contended: the pass did nothing, and others changed the number of free permits
abbrev pub IsTry : PassView → PassView → Attempt → Type 0
IsTry p q Taken = AppendsEvent p (Took p.number) (λ before. length (holders before) < in_use_count p.source.max before) q
IsTry p q Full = AppendsEvent p (Refused p.number) (λ before. length (holders before) ≡ in_use_count p.source.max before) q
IsTry p q Contended = HasSeenMore p q × FreeChanged p.source.max p.seen q.seen

-- the permits that a pass holds after a try
abbrev pub held_after : ℕ → Attempt → ℕ
held_after held Taken = held + 1
held_after held Full = held
held_after held Contended = held

-- the result of a call that retries while it is contended, as that of its last try
abbrev pub last_try : Acquire → Attempt
last_try acquired.Taken = Taken
last_try acquired.Full = Full
