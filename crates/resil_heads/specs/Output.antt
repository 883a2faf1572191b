-- What is written for an input, by the texts that a command may give for it and the refusals.
use Rattle.std.specs.Prelude.{ℕ, ◌≡◌, ◌⊎◌, false, true, List, string_bytes}
use Rattle.resil_heads.specs.Length.{is_too_long}
use Rattle.resil_heads.specs.Refusal.{refusal_line}
use Rattle.resil_heads.specs.declared.refusal.InputRefusal.{InputRefusal}
use Rattle.resil_heads.specs.declared.refusal.InputRefusal.TheVariants as refusal
use Rattle.resil_input.specs.declared.output.Output.{Output}
use Rattle.resil_input.specs.declared.output.Output.TheVariants as output

-- a line that refuses an input of a command with this limit: it is too long, or it is refused by one of these lines
abbrev pub IsLineFor : ℕ → (List ℕ → List ℕ → Type 0) → List ℕ → List ℕ → Type 0
IsLineFor limit IsLine input line = ((is_too_long limit input ≡ true) × (line ≡ refusal_line refusal.TooLong)) ⊎ ((is_too_long limit input ≡ false) × IsLine input line)

-- an output for an input, by the limit and by the texts and the lines that one has: a text, the line that refuses it, or the line that says
-- it is out of memory
abbrev pub IsOutputFor : ℕ → (List ℕ → List ℕ → Type 0) → (List ℕ → List ℕ → Type 0) → List ℕ → Output → Type 0
IsOutputFor limit IsText IsLine input (output.Text text) = (is_too_long limit input ≡ false) × IsText input text.items
IsOutputFor limit IsText IsLine input (output.Line line) = IsLineFor limit IsLine input (string_bytes line)
IsOutputFor limit IsText IsLine input output.Usage = ⊥
IsOutputFor limit IsText IsLine input output.NoMemory = Unit {0}
IsOutputFor limit IsText IsLine input output.NoThread = ⊥

-- the line of one of these refusals of an input
abbrev pub IsRefusalLine : (List ℕ → InputRefusal → Type 0) → List ℕ → List ℕ → Type 0
IsRefusalLine IsWhy input line = (why : InputRefusal) × IsWhy input why × (line ≡ refusal_line why)
