-- What comes first in the history of a pool whose rows are held: the rows, in their order, and the closing.
use Rattle.std.specs.Prelude.{◌≡◌, ◌↔◌, ◌++◌, ◌∷◌, ℕ, Bool, IsTrue, List, Option, Some, None, map}
use Rattle.resil_pool.specs.Words.{JobRow, Sizes, Event, Submit, Close, LoggedEvent}
use Rattle.resil_pool.specs.Lock.{log_event, events_in, closer_number, SeesOwn}

-- the caller that an event is a submission of
abbrev pub submitter : Event → Option ℕ
submitter (Submit id reply) = Some id.caller
submitter _ = None

abbrev pub row_caller : JobRow → Option ℕ
row_caller row = Some row.caller

-- the events are the submissions of the rows' callers, in row order, and nothing else
abbrev pub AreRows : List JobRow → List Event → Type 0
AreRows rows events = map submitter events ≡ map row_caller rows

-- first all rows were submitted, in their order, then the pool was closed, and the rest came after that
pub record BeginsWithRows (rows : List JobRow) (history : List Event) : Type 0 where
  pub submissions : List Event
  pub rest : List Event
  pub in_order : AreRows rows submissions
  pub closed_next : history ≡ submissions ++ Close ∷ rest

-- if the closer closed the pool in between, the result says whether what comes before the closing is the rows' submissions, in their order, and
-- nothing else
abbrev pub TellsOfRows : Bool → List JobRow → Sizes → List LoggedEvent → List LoggedEvent → Type 0
TellsOfRows answer rows limits old new =
    (closing : SeesOwn limits closer_number old (log_event None Close) new) → (IsTrue answer ↔ AreRows rows (events_in closing.before))
