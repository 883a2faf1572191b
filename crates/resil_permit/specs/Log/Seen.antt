-- What one seat has seen of the log, and how a call lets it grow.
use Rattle.std.specs.Prelude.{◌≡◌, ℕ, Bool, nat_lt, if◌then◌else◌, List, [], ◌∷◌, ◌++◌, filter, length}
use mathlib.Core.List.{IsPrefix}

-- the call has no event of its own: what has been seen now is legal, begins with what was seen before, and has the same own
-- events
pub record SeesMore {E K : Type 0} (IsLegal : K → List E → Type 0) (is_own : ℕ → E → Bool) (key : K) (number : ℕ) (old new : List E) : Type 0 where
  pub legal : IsLegal key new
  pub begins : IsPrefix old new
  pub same_own : filter (is_own number) new ≡ filter (is_own number) old

-- the call has one event of its own: it is the last that has been seen now, and Before holds of everything before it
pub record SeesOwn {E K : Type 0} (IsLegal : K → List E → Type 0) (is_own : ℕ → E → Bool) (key : K) (number : ℕ) (old : List E) (event : E) (Before : List E → Type 0) (new : List E) : Type 0 where
  pub legal : IsLegal key new
  pub begins : IsPrefix old new
  pub more_own : filter (is_own number) new ≡ filter (is_own number) old ++ event ∷ []
  pub before : List E
  pub ends : new ≡ before ++ event ∷ []
  pub there : Before before

-- at the end of a join a seat has seen more than it had itself, and this also begins with what the other seat had seen
abbrev pub SeesBoth : {E K : Type 0} (IsLegal : K → List E → Type 0) (is_own : ℕ → E → Bool) (key : K) (number : ℕ) (mine other new : List E) → Type 0
SeesBoth IsLegal is_own key number mine other new = SeesMore IsLegal is_own key number mine new × IsPrefix other new

-- the longer of two lists, or the first if they are equally long
abbrev pub longer_of : {E : Type 0} → List E → List E → List E
longer_of xs ys = if nat_lt (length xs) (length ys) then ys else xs
