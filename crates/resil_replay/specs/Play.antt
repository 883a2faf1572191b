-- The history that the rows of a replay determine, and why rows can't be carried out.
use Rattle.std.specs.Prelude.{ℕ, suc, ◌≡◌, ◌≢◌, ◌++◌, ◌∷◌, [], Bool, true, false, List, length, map, if◌then◌else◌}
use Rattle.resil_rule.specs.Limits.{Sizes, IsCore}
use Rattle.resil_rule.specs.History.{is_among, running, next_number}
use Rattle.resil_rule.specs.Admission.{IsAllowed, IsLegal}
use Rattle.resil_rule.specs.declared.event.Id.{Id}
use Rattle.resil_rule.specs.declared.event.Event.{Event}
use Rattle.resil_rule.specs.declared.event.Event.TheVariants as event
use Rattle.resil_replay.specs.declared.rows.ReplayRow.{ReplayRow}
use Rattle.resil_replay.specs.declared.rows.ReplayRow.TheVariants as row
use Rattle.resil_heads.specs.declared.refusal.RowRefusal.{RowRefusal}
use Rattle.resil_heads.specs.declared.refusal.RowRefusal.TheVariants as refusal
use Rattle.resil_replay.specs.declared.pool.RowError.{RowError}
use Rattle.resil_replay.specs.declared.pool.RowError.TheVariants as row_error
use Rattle.resil_replay.specs.declared.play.ReplayError.{ReplayError}
use Rattle.resil_replay.specs.declared.play.ReplayError.TheVariants as error

-- the row that writes an event: the event without its reply, and a take without its id
abbrev pub row_of_event : Event → ReplayRow
row_of_event (event.Submit id reply) = row.Submit id
row_of_event (event.Take id) = row.Take
row_of_event (event.Finish id) = row.Finish id
row_of_event event.IdleEnd = row.Idle
row_of_event event.Close = row.Close
row_of_event (event.Resized core max) = row.Resize core max

-- whether a row is a closing
abbrev pub is_closing : ReplayRow → Bool
is_closing row.Close = true
is_closing _ = false

-- rows without the closings after the first one, or without any closing if the pool is closed already
abbrev pub drop_repeated_closings : Bool → List ReplayRow → List ReplayRow
drop_repeated_closings closed [] = []
drop_repeated_closings closed (row.Close ∷ rows) = if closed then drop_repeated_closings true rows else row.Close ∷ drop_repeated_closings true rows
drop_repeated_closings closed (other ∷ rows) = other ∷ drop_repeated_closings closed rows

-- The history of rows: a legal one whose events, without replies and without the ids of takes, are the rows, except for
-- the closings after the first one, which write no event.
abbrev pub IsHistoryOf : Sizes → List ReplayRow → List Event → Type 0
IsHistoryOf limits rows history = IsLegal limits history × (map row_of_event history ≡ drop_repeated_closings false rows)

-- Why a row is refused after a history: a submission's number isn't its caller's next one, the job of a finish doesn't run, no
-- take, or no end of an idle worker, is allowed, or the sizes of a resize are out of their ranges, the core size first.
abbrev pub IsRowRefusal : Sizes → List Event → ReplayRow → RowRefusal → Type 0
IsRowRefusal limits history (row.Submit id) refusal.WrongNumber = id.number ≢ next_number history id.caller
IsRowRefusal limits history (row.Finish id) refusal.NotOut = is_among id (running history) ≡ false
IsRowRefusal limits history row.Take refusal.NotAllowed = (id : Id) → ¬ IsAllowed limits history (event.Take id)
IsRowRefusal limits history row.Idle refusal.NotAllowed = ¬ IsAllowed limits history event.IdleEnd
IsRowRefusal limits history (row.Resize core max) refusal.CoreOutOfRange = ¬ IsCore core
IsRowRefusal limits history (row.Resize core max) refusal.MaxOutOfRange = IsCore core × ¬ IsAllowed limits history (event.Resized core max)
IsRowRefusal limits history _ _ = ⊥

-- why a row wasn't carried out after a history: it is refused, or out of memory
abbrev pub IsRowError : Sizes → List Event → ReplayRow → RowError → Type 0
IsRowError limits history row row_error.Memory = Unit {0}
IsRowError limits history row (row_error.Refused why) = IsRowRefusal limits history row why

-- the error of a replay whose row at a position has this error
abbrev pub error_at_row : ℕ → RowError → ReplayError
error_at_row position row_error.Memory = error.Memory
error_at_row position (row_error.Refused why) = error.Refused position why

-- Why not all rows are carried out: out of memory, or the rows before a position have a history, and the one there is refused
-- after it. Positions are from 1.
abbrev pub IsReplayError : Sizes → List ReplayRow → ReplayError → Type 0
IsReplayError limits rows error.Memory = Unit {0}
IsReplayError limits rows (error.Refused position why) = (prefix : List ReplayRow) × (bad : ReplayRow) × (rest : List ReplayRow) × (history : List Event)
    × (rows ≡ prefix ++ bad ∷ rest) × (position ≡ suc (length prefix)) × IsHistoryOf limits prefix history × IsRowRefusal limits history bad why
