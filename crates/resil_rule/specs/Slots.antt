-- The places of the jobs that are out: each place has the id of a job, or nothing.
use Rattle.std.specs.Prelude.{ℕ, ◌≡◌, ◌≢◌, ◌∷◌, [], All, Bool, false, List, Option, Some, None, slice_get}
use Rattle.resil_rule.specs.History.{is_same_id}
use Rattle.resil_rule.specs.declared.event.Id.{Id}

-- the ids of the jobs that are out, by their places
abbrev pub ids_out : List (Option Id) → List Id
ids_out [] = []
ids_out (None ∷ places) = ids_out places
ids_out (Some id ∷ places) = id ∷ ids_out places

-- whether a place has the job with this id
abbrev pub is_of : Id → Option Id → Bool
is_of id None = false
is_of id (Some other) = is_same_id id other

-- Each of these places is free, and no two of them are the same.
abbrev pub AreFree : List (Option Id) → List ℕ → Type 0
AreFree places [] = Unit {0}
AreFree places (place ∷ free) = (slice_get places place ≡ Some None) × All (λ other. other ≢ place) free × AreFree places free
