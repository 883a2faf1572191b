-- The two parts of an input, and the refusals of the steps that all commands share.
use Rattle.std.specs.Prelude.{ℕ, ◌≤◌, ◌≡◌, List, Some, None, Result, Ok, Err, length}
use Rattle.resil_input.specs.Io.{input_limit}
use Rattle.resil_input.specs.Framing.{parts_of}
use Rattle.resil_input.specs.declared.csv_rows.BodyError.{BodyError}
use Rattle.resil_input.specs.declared.csv_rows.BodyError.TheVariants as body_error
use Rattle.resil_heads.specs.declared.error.HeadError.{HeadError}
use Rattle.resil_heads.specs.declared.refusal.InputRefusal.{InputRefusal}
use Rattle.resil_heads.specs.declared.refusal.InputRefusal.TheVariants as refusal

-- the input is within the limit of its length
abbrev pub FitsLimit : List ℕ → Type 0
FitsLimit input = length input ≤ input_limit

-- the input splits at its separator line into a head that says this and a body
abbrev pub SplitsInto : {Head : Type 0} → (List ℕ → Result Head HeadError) → List ℕ → Head → List ℕ → Type 0
SplitsInto head_of input said body = (head : List ℕ) × (parts_of input ≡ Some (head, body)) × (head_of head ≡ Ok said)

-- The refusal of the first step that refuses an input: its parts, its head, its body. Each step uses what the steps before it gave.
abbrev pub IsPartRefusal : {Head : Type 0} → (List ℕ → Result Head HeadError) → (List ℕ → BodyError → Type 0) → List ℕ → InputRefusal → Type 0
IsPartRefusal head_of IsBad input refusal.NoBody = parts_of input ≡ None
IsPartRefusal head_of IsBad input (refusal.Head why) = (head : List ℕ) × (body : List ℕ) × (parts_of input ≡ Some (head, body)) × (head_of head ≡ Err why)
IsPartRefusal {Head} head_of IsBad input refusal.BadHeader = (said : Head) × (body : List ℕ) × SplitsInto head_of input said body × IsBad body body_error.BadHeader
IsPartRefusal {Head} head_of IsBad input (refusal.BadRow position) = (said : Head) × (body : List ℕ) × SplitsInto head_of input said body × IsBad body (body_error.BadRow position)
IsPartRefusal head_of IsBad input why = ⊥
