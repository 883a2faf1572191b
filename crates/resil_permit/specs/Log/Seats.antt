-- All seats of one log: what holds of the log, and of what each seat knows, between any two steps. A seat's number is its index among all seats.
use Rattle.std.specs.Prelude.{◌≡◌, ℕ, ◌≤◌, Bool, List, [], filter, length}
use mathlib.Core.Option.{some}
use mathlib.Core.List.{IsPrefix}
use lib.ListN.{get_elem?}

-- the seat at this index has its number, knows the key, has seen a prefix of the log, and has seen all its own events in the log
pub record IsLive {E K : Type 0} (is_own : ℕ → E → Bool) (key : K) (log : List E) (index number : ℕ) (known : K) (seen : List E) : Type 0 where
  pub numbered : number ≡ index
  pub keyed : known ≡ key
  pub begins : IsPrefix seen log
  pub all_own : filter (is_own index) seen ≡ filter (is_own index) log

-- some seat has seen the whole log
pub record IsSeenWhole {E V : Type 0} (seen : V → List E) (log : List E) (views : List V) : Type 0 where
  pub index : ℕ
  pub seat : V
  pub there : get_elem? views index ≡ some seat
  pub whole : seen seat ≡ log

-- This is the log of the seats that have these views. It is legal, and some seat has seen it whole. Fits is what the protocol says of a view at an
-- index; and no event belongs to a seat that isn't there
pub record IsLogOf {E V : Type 0} (seen : V → List E) (IsLegal : List E → Type 0) (is_own : ℕ → E → Bool) (Fits : ℕ → V → Type 0) (log : List E) (views : List V) : Type 0 where
  pub legal : IsLegal log
  pub longest : IsSeenWhole seen log views
  pub each : (index : ℕ) (v : V) → get_elem? views index ≡ some v → Fits index v
  pub no_others : (index : ℕ) → length views ≤ index → filter (is_own index) log ≡ []
