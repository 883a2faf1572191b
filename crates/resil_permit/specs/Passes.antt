-- What contracts see of permits and of passes.
use Rattle.std.specs.Prelude.{◌≡◌, ℕ, ◌+◌, ◌-◌, ◌≤◌, List, []}
use Rattle.atomic_table.specs.Seated.{TableId}
use Rattle.resil_permit.specs.declared.event.PermitEvent.{PermitEvent}
use Rattle.resil_permit.specs.declared.protocol.Phase.TheVariants.{Idle}
use Rattle.resil_permit.specs.History.{events_of_seat, taken_count, retired_count, raised_count, let_go_count, IsLegal}
use Rattle.resil_permit.specs.Knowledge.{SeesMore, SeesOwn}
use Rattle.resil_permit.specs.Steps.{PassSeat}

-- which permits they are, and how many
pub record Source : Type 0 where
  pub table_id : TableId
  pub max : ℕ

-- the permits that a pass came from, its number, and the history that it has seen
pub record PassView : Type 0 where
  pub source : Source
  pub number : ℕ
  pub seen : List PermitEvent

abbrev pub pass_view : TableId → PassSeat → PassView
pass_view id me = record { source = record { table_id = id; max = me.0.max }; number = me.0.number; seen = me.0.seen }

-- what holds of a pass between two calls
pub record IsAtRest (me : PassSeat) (held retired : ℕ) : Type 0 where
  pub idle : me.0.phase ≡ Idle
  pub no_slot : me.1 ≡ []
  pub counted : held + let_go_count me.0.number me.0.seen ≡ taken_count me.0.number me.0.seen
  pub kept_back : retired + raised_count me.0.number me.0.seen ≡ retired_count me.0.number me.0.seen
  pub legal : IsLegal me.0.max me.0.seen
  pub few : me.0.max ≤ 65535

-- a pass's own events
abbrev pub own_events : PassView → List PermitEvent
own_events p = events_of_seat p.number p.seen

-- the permits that a pass holds: those that it took less those that it gave back or retired
abbrev pub held_by : PassView → ℕ
held_by p = taken_count p.number p.seen - let_go_count p.number p.seen

-- the retired permits of a pass: those that it retired less those that it raised again. They are neither free nor held
abbrev pub retired_by : PassView → ℕ
retired_by p = retired_count p.number p.seen - raised_count p.number p.seen

-- the same pass of the same permits
pub record IsSamePass (p q : PassView) : Type 0 where
  pub source : q.source ≡ p.source
  pub number : q.number ≡ p.number

-- the pass has seen more, and had no event of its own
abbrev pub HasSeenMore : PassView → PassView → Type 0
HasSeenMore p q = SeesMore p.source.max p.number p.seen q.seen

-- the pass has seen more, and its last event is this one of its own, before which Before held
abbrev pub AppendsEvent : PassView → PermitEvent → (List PermitEvent → Type 0) → PassView → Type 0
AppendsEvent p event Before q = SeesOwn p.source.max p.number p.seen event Before q.seen
