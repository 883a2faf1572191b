-- What contracts see of the workers that have no job.
use Rattle.std.specs.Prelude.{ℕ, ◌≡◌, ◌||◌, ◌&&◌, Bool, false, List, Option, Some, None, nat_le, nat_lt}
use Rattle.resil_virtual.specs.Due.{earliest, ends_of, looks_of}
use Rattle.resil_virtual.specs.declared.idle.Idle.{Idle}

-- the one that has been idle longest is the first
pub record IdleView : Type 0 where
  pub items : List Idle

-- when the first one may end, and when the first one looks
pub record AreFirst (idle : List Idle) (first_end first_look : Option ℕ) : Type 0 where
  pub end : first_end ≡ earliest (λ end. end) (ends_of idle)
  pub look : first_look ≡ earliest (λ look. look) (looks_of idle)

-- whether a time to end is before a moment, and whether a look is at it or before
abbrev pub is_over : ℕ → Option ℕ → Bool
is_over at None = false
is_over at (Some end) = nat_lt end at

abbrev pub has_looked : ℕ → Option ℕ → Bool
has_looked at None = false
has_looked at (Some look) = nat_le look at

-- whether time alone changes a worker up to a moment
abbrev pub changes : Bool → ℕ → Option ℕ → Option ℕ → Bool
changes none at end look = is_over at end || (none && has_looked at look)
