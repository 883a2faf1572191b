-- What each kind of step on the word shows the pass that makes it: of the number found, and of the pass after it.
use Rattle.std.specs.Prelude.{◌≡◌, ◌≢◌, ℕ, ◌+◌, ◌<◌, ◌≤◌, List, [], length}
use Rattle.atomic_table.specs.Table.{Me, Step}
use Rattle.resil_permit.specs.declared.event.PermitEvent.{PermitEvent}
use Rattle.resil_permit.specs.declared.event.PermitEvent.TheVariants.{Took, Refused}
use Rattle.resil_permit.specs.declared.protocol.Phase.{Phase}
use Rattle.resil_permit.specs.declared.protocol.Phase.TheVariants.{Idle, Loaded, Joining}
use Rattle.resil_permit.specs.declared.protocol.View.{View}
use Rattle.resil_permit.specs.History.{is_event_of, events_of_seat, holders, in_use_count, free_count, IsLegal}
use Rattle.resil_permit.specs.Log.Seen.{SeesBoth}
use Rattle.resil_permit.specs.Knowledge.{SeesMore, SeesOwn}

-- what a pass knows, with its slots; there are none
abbrev pub PassSeat : Type 0
PassSeat = Me (Unit {0}) View

-- it is the same pass, with the same permits
pub record IsSame (m m' : PassSeat) : Type 0 where
  pub slots : m'.1 ≡ m.1
  pub number : m'.0.number ≡ m.0.number
  pub max : m'.0.max ≡ m.0.max

abbrev pub SeesMoreThan : PassSeat → PassSeat → Type 0
SeesMoreThan m m' = SeesMore m.0.max m.0.number m.0.seen m'.0.seen

abbrev pub SeesOwnAfter : PassSeat → PermitEvent → (List PermitEvent → Type 0) → PassSeat → Type 0
SeesOwnAfter m event Before m' = SeesOwn m.0.max m.0.number m.0.seen event Before m'.0.seen

-- a plain load: the number found is that of the free permits
pub record AfterPlainLoad (step : Step (Unit {0})) (m : PassSeat) (found : ℕ) (m' : PassSeat) : Type 0 where
  pub same : IsSame m m'
  pub idle : m'.0.phase ≡ Idle
  pub seen : SeesMoreThan m m'
  pub free : found + length (holders m'.0.seen) ≡ in_use_count m.0.max m'.0.seen

-- the load of a try: 0 is a refusal, and any other number is remembered
pub record AfterAcquireLoad (step : Step (Unit {0})) (m : PassSeat) (found : ℕ) (m' : PassSeat) : Type 0 where
  pub same : IsSame m m'
  pub refused : found ≡ 0 → (m'.0.phase ≡ Idle) × SeesOwnAfter m (Refused m.0.number) (λ before. length (holders before) ≡ in_use_count m.0.max before) m'
  pub loaded : found ≢ 0 → (m'.0.phase ≡ Loaded found) × SeesMoreThan m m'

-- the exchange of a try: if the word is what was loaded, a permit is taken; otherwise the number of free permits has changed since
pub record AfterAcquireExchange (step : Step (Unit {0})) (m : PassSeat) (found : ℕ) (m' : PassSeat) : Type 0 where
  pub same : IsSame m m'
  pub idle : m'.0.phase ≡ Idle
  pub took : found ≡ step.first → SeesOwnAfter m (Took m.0.number) (λ before. length (holders before) < in_use_count m.0.max before) m'
  pub lost : found ≢ step.first → SeesMoreThan m m' × (free_count m.0.max m'.0.seen ≢ free_count m.0.max m.0.seen)

-- the add of a release, of a retire or of a raise: its event is the pass's own
pub record AfterAdd (event : ℕ → PermitEvent) (step : Step (Unit {0})) (m : PassSeat) (found : ℕ) (m' : PassSeat) : Type 0 where
  pub same : IsSame m m'
  pub idle : m'.0.phase ≡ Idle
  pub own : SeesOwnAfter m (event m.0.number) (λ _. Unit {0}) m'

-- the load that ends a split: the new pass gets a number of its own, which no event has yet
pub record AfterNumberSeat (step : Step (Unit {0})) (m : PassSeat) (found : ℕ) (m' : PassSeat) : Type 0 where
  pub slots : m'.1 ≡ m.1
  pub idle : m'.0.phase ≡ Idle
  pub number : m'.0.number ≢ m.0.number
  pub max : m'.0.max ≡ m.0.max
  pub seen : m'.0.seen ≡ m.0.seen
  pub no_events : events_of_seat m'.0.number m'.0.seen ≡ []

-- the load that makes a pass from none: the new pass has seen a whole legal history, and there is no event of its own. m is the first pass, as it was
-- at the start
pub record AfterNewPass (step : Step (Unit {0})) (m : PassSeat) (found : ℕ) (m' : PassSeat) : Type 0 where
  pub slots : m'.1 ≡ m.1
  pub idle : m'.0.phase ≡ Idle
  pub max : m'.0.max ≡ m.0.max
  pub few : m.0.max ≤ 65535
  pub legal : IsLegal m.0.max m'.0.seen
  pub free : found + length (holders m'.0.seen) ≡ in_use_count m.0.max m'.0.seen
  pub no_events : events_of_seat m'.0.number m'.0.seen ≡ []

-- what has been seen at the end of a join begins with what either pass had seen, and the two had different numbers
abbrev pub BeginsWithBothPasses : ℕ → ℕ → Phase → List PermitEvent → Type 0
BeginsWithBothPasses max number (Joining other_number mine other) new = SeesBoth IsLegal is_event_of max number mine other new × (other_number ≢ number)
BeginsWithBothPasses max number _ new = Unit {0}

-- the load that ends a join
pub record AfterPassJoin (step : Step (Unit {0})) (m : PassSeat) (found : ℕ) (m' : PassSeat) : Type 0 where
  pub same : IsSame m m'
  pub idle : m'.0.phase ≡ Idle
  pub both : BeginsWithBothPasses m.0.max m.0.number m.0.phase m'.0.seen
