-- What contracts see of the permitter of real bulkheads: its passes.
use Rattle.std.specs.Prelude.{ℕ, ◌≡◌, ◌≢◌, Bool, true, false, List, [], Option, Some, None, length, map, slice_get}
use Rattle.std.specs.List.{AllZip, filter_map}
use Rattle.resil_bulkhead.specs.PermitEvent.{PermitEvent}
use Rattle.resil_bulkhead.specs.PermitEvent.TheVariants.{Took, Gave, Refused, Retired, Raised}
use Rattle.resil_bulkhead.specs.Passes.{PassView, Source, own_events, held_by}
use Rattle.resil_decor.specs.declared.permitter.Asked.{Asked}
use Rattle.resil_decor.specs.Permitter.{PermitterAnswers, AreAnswered}

-- the answer of an event: yes if a permit was taken, no if it was refused; giving one back, retiring
-- or raising one isn't an answer
abbrev pub answer_in : PermitEvent → Option Bool
answer_in (Took seat) = Some true
answer_in (Refused seat) = Some false
answer_in (Gave seat) = None
answer_in (Retired seat) = None
answer_in (Raised seat) = None

-- the answers that a pass got, in their order
abbrev pub answers_in : PassView → List Bool
answers_in pass = filter_map answer_in (own_events pass)

-- the answers for an id: those of the pass at that index
abbrev pub answers_at : Option PassView → List Bool
answers_at None = []
answers_at (Some pass) = answers_in pass

-- how many permits are held of an id
abbrev pub held_at : Option PassView → ℕ
held_at None = 0
held_at (Some pass) = held_by pass

-- what a permitter of these passes has answered; it knows the ids below their number
abbrev pub answers_of : List PassView → PermitterAnswers
answers_of passes = record { known = length passes; given = λ id. answers_at (slice_get passes id) }

-- how many permits of an id these passes hold
abbrev pub held_of : List PassView → ℕ → ℕ
held_of passes id = held_at (slice_get passes id)

-- the permits that each pass belongs to
abbrev pub sources_of : List PassView → List Source
sources_of passes = map (λ pass. pass.source) passes

-- the number of each pass
abbrev pub numbers_of : List PassView → List ℕ
numbers_of passes = map (λ pass. pass.number) passes

-- these are the same passes, of the same permits
pub record AreSamePasses (old new : List PassView) : Type 0 where
  pub sources : sources_of new ≡ sources_of old
  pub numbers : numbers_of new ≡ numbers_of old

-- these are the same passes, which gave these answers in between, one after the other, and no others
pub record GaveAnswers (old : List PassView) (asked : List Asked) (new : List PassView) : Type 0 where
  pub same : AreSamePasses old new
  pub answered : AreAnswered (answers_of old) asked (answers_of new)

-- a pass that was split from another: it is of the same permits, has a number of its own, holds
-- nothing and has seen what the other has seen
pub record IsSplitFrom (old new : PassView) : Type 0 where
  pub source : new.source ≡ old.source
  pub seen : new.seen ≡ old.seen
  pub number : new.number ≢ old.number
  pub own : own_events new ≡ []
  pub held : held_by new ≡ 0

-- each pass is split from the one at its index
abbrev pub AreSplitFrom : List PassView → List PassView → Type 0
AreSplitFrom = AllZip IsSplitFrom
