-- What all passes hold and have retired together.
use Rattle.std.specs.Prelude.{◌≡◌, ℕ, ◌+◌, ◌-◌, ◌≤◌, List, slice_index, sum_by}
use Rattle.resil_permit.specs.declared.protocol.Phase.{Phase}
use Rattle.resil_permit.specs.declared.protocol.Phase.TheVariants.{Splitting, Joined}
use Rattle.resil_permit.specs.declared.protocol.View.{View}
use Rattle.resil_permit.specs.History.{taken_count, retired_count, raised_count, let_go_count}
use Rattle.resil_permit.specs.Rule.{PermitWordInvariant}

-- the permits that a pass holds, by its own events in what it has seen
abbrev pub held_in : View → Phase → ℕ
held_in v Splitting = 0
held_in v Joined = 0
held_in v _ = taken_count v.number v.seen - let_go_count v.number v.seen

-- the retired permits of a pass, likewise
abbrev pub retired_in : View → Phase → ℕ
retired_in v Splitting = 0
retired_in v Joined = 0
retired_in v _ = retired_count v.number v.seen - raised_count v.number v.seen

abbrev pub held_in_all : List View → ℕ
held_in_all views = sum_by (λ v. held_in v v.phase) views

abbrev pub retired_in_all : List View → ℕ
retired_in_all views = sum_by (λ v. retired_in v v.phase) views

-- under the rule of the word, the free permits and those that all passes hold or have retired, dropped ones too, add up to max, and so no more than max are held
abbrev pub AllAddUp : Type 0
AllAddUp = (max : ℕ) (words : List ℕ) (views : List View) → PermitWordInvariant max words views → (slice_index words 0 + held_in_all views + retired_in_all views ≡ max) × (held_in_all views ≤ max)
