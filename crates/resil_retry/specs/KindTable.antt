-- Tables of kinds: an answer for each kind of error.
use Rattle.std.specs.Prelude.{ℕ, ◌+◌, ◌<◌, ◌≡◌, Bool, false, List, slice_index_or}
use Rattle.resil_retry.specs.declared.outcome.Kind.{Kind}
use Rattle.resil_retry.specs.declared.outcome.Kind.TheVariants.{Code, Full, Exceeded}
use Rattle.resil_retry.specs.ErrorTest.{ErrorTestView, names}

-- the index of a kind in a table
abbrev pub index_of : Kind → ℕ
index_of Full = 0
index_of Exceeded = 1
index_of (Code code) = 2 + code

-- a kind that a table has: `Full`, `Exceeded`, or a code of 16 bits
abbrev pub HasIndex : Kind → Type 0
HasIndex kind = index_of kind < 65538

-- the answer for a kind
abbrev pub answer_of : List Bool → Kind → Bool
answer_of table kind = slice_index_or table (index_of kind) false

-- the answers of this table are those of an error test
abbrev pub TellsNames : ErrorTestView → List Bool → Type 0
TellsNames test table = (kind : Kind) → HasIndex kind → answer_of table kind ≡ names test kind
