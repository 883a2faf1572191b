-- An output: its status, its bytes, and what a writer has of it.
use Rattle.std.specs.Prelude.{ℕ, ◌≡◌, ◌⊎◌, Bool, true, List, Option, codes, string_bytes}
use Rattle.std.specs.Io.KnownBytes.{Appends}
use Rattle.resil_input.specs.Io.{AppendsPrefix}
use Rattle.resil_input.specs.declared.output.Output.{Output}
use Rattle.resil_input.specs.declared.output.Output.TheVariants as output
use Rattle.resil_input.specs.declared.output.Status.{Status}
use Rattle.resil_input.specs.declared.output.Status.TheVariants as status

-- the number of a status
abbrev pub code_of : Status → ℕ
code_of status.Done = 0
code_of status.Refused = 1
code_of status.Usage = 2
code_of status.NoMemory = 3
code_of status.NoThread = 3
code_of status.Failed = 4

-- the three lines that don't refuse an input
abbrev pub usage_line : List ℕ
usage_line = codes "refused usage\n"

abbrev pub memory_line : List ℕ
memory_line = codes "refused memory\n"

abbrev pub threads_line : List ℕ
threads_line = codes "refused threads\n"

-- the status of an output
abbrev pub status_of : Output → Status
status_of (output.Text text) = status.Done
status_of (output.Line line) = status.Refused
status_of output.Usage = status.Usage
status_of output.NoMemory = status.NoMemory
status_of output.NoThread = status.NoThread

-- the bytes of an output
abbrev pub bytes_of : Output → List ℕ
bytes_of (output.Text text) = text.items
bytes_of (output.Line line) = string_bytes line
bytes_of output.Usage = usage_line
bytes_of output.NoMemory = memory_line
bytes_of output.NoThread = threads_line

-- The output was written whole, with its status and no new failure, or a write failed after a prefix of it. The lists are what the writer
-- has before and after, if it says so, and the two tests say whether a call of it had failed.
abbrev pub IsWritten : Option (List ℕ) → Option (List ℕ) → Bool → Bool → Output → Status → Type 0
IsWritten before after failed_before failed_after out s = (s ≡ status_of out) × Appends before after (bytes_of out) × (failed_after ≡ failed_before)
    ⊎ ((s ≡ status.Failed) × AppendsPrefix before after (bytes_of out) × (failed_after ≡ true))
