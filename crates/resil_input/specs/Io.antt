-- What was read from a reader, and written to a writer.
use Rattle.std.specs.Prelude.{◌≡◌, ◌≤◌, ◌<◌, ◌++◌, ℕ, Bool, true, false, List, length, take, Option, Result, Ok, Err}
use Rattle.std.specs.Io.KnownBytes.{Appends, Consumes, IsAtEnd}
use Rattle.resil_input.specs.declared.io.FailureTracking.{FailureTracking}
use Rattle.resil_input.specs.declared.io.Input.{Input}
use Rattle.resil_input.specs.declared.io.Input.TheVariants.{Whole, TooLong}
use Rattle.resil_input.specs.declared.io.ReadError.{ReadError}
use Rattle.resil_input.specs.declared.io.ReadError.TheVariants.{Memory, Reader}

-- the reader or writer itself
abbrev pub inner_of : {S : Type 0} → FailureTracking S → S
inner_of s = s.inner

-- whether a call to it failed
abbrev pub has_failed : {S : Type 0} → FailureTracking S → Bool
has_failed s = s.failed

-- the maximum length of an input of `resil`, and of a head, in bytes: one mebibyte
abbrev pub input_limit : ℕ
input_limit = 1048576

-- what these bytes are read as, up to a limit: all of them, or too long an input
abbrev pub IsInputUpTo : ℕ → List ℕ → Input → Type 0
IsInputUpTo limit bytes (Whole text) = (text.items ≡ bytes) × (length bytes ≤ limit)
IsInputUpTo limit bytes TooLong = limit < length bytes

-- the same for an input of `resil`
abbrev pub IsInput : List ℕ → Input → Type 0
IsInput = IsInputUpTo input_limit

-- at most this many bytes were taken from the front of what was left to read
abbrev pub ConsumesAtMost : ℕ → Option (List ℕ) → Option (List ℕ) → Type 0
ConsumesAtMost most old new = (taken : List ℕ) × (length taken ≤ most) × Consumes old new taken

-- bytes were read and added to those before, as many as the answer says, and none only if none are left to read
abbrev pub AddsRead : Option (List ℕ) → Option (List ℕ) → List ℕ → List ℕ → ℕ → Type 0
AddsRead old new before after count = (read : List ℕ) × Consumes old new read × (after ≡ before ++ read) × (length read ≡ count) × (count ≡ 0 → IsAtEnd new)

-- whether reading ended with a failed read
abbrev pub is_reader_error : {V : Type 0} → Result V ReadError → Bool
is_reader_error (Ok value) = false
is_reader_error (Err Reader) = true
is_reader_error (Err Memory) = false

-- the text, or a prefix of it, was written
abbrev pub AppendsPrefix : Option (List ℕ) → Option (List ℕ) → List ℕ → Type 0
AppendsPrefix old new text = (count : ℕ) × Appends old new (take count text)
