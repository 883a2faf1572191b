-- What the table of submissions says of a job: it has a row for each caller, with the submission of number n at n - 1.
use Rattle.std.specs.Prelude.{ℕ, zero, suc, ◌∷◌, [], List, Option, None, Some, slice_index_or}
use Rattle.resil_admission.specs.Words.{Id, Place}

-- the index that a place stands for, which is one less than its number; none for 0
abbrev pub index_before : ℕ → Option ℕ
index_before zero = None
index_before (suc index) = Some index

abbrev pub no_place : Place
no_place = record { behind = 0 }

-- a caller's submissions; none for a caller without a row
abbrev pub row_at : List (List Place) → ℕ → List Place
row_at rows caller = slice_index_or rows caller []

-- the index of the accepted job of an id; there is none of number 0
abbrev pub place_at : List (List Place) → Id → Option ℕ
place_at rows id = index_before (slice_index_or (no_place ∷ row_at rows id.caller) id.number no_place).behind
