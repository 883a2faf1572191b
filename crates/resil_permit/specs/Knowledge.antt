-- What a pass has seen of the one permit history, and how a call lets it grow: the log of permits is the permit history, and its key is the number of
-- permits.
use Rattle.std.specs.Prelude.{ℕ, List}
use Rattle.resil_permit.specs.declared.event.PermitEvent.{PermitEvent}
use Rattle.resil_permit.specs.History.{is_event_of, IsLegal}
use Rattle.resil_permit.specs.Log.Seen as log

-- the call has no event of its own: what has been seen now is legal, begins with what was seen before, and has the same own events
abbrev pub SeesMore : ℕ → ℕ → List PermitEvent → List PermitEvent → Type 0
SeesMore max number old new = log.SeesMore IsLegal is_event_of max number old new

-- the call has one event of its own: it is the last that has been seen now, and Before holds of everything before it
abbrev pub SeesOwn : ℕ → ℕ → List PermitEvent → PermitEvent → (List PermitEvent → Type 0) → List PermitEvent → Type 0
SeesOwn max number old event Before new = log.SeesOwn IsLegal is_event_of max number old event Before new
