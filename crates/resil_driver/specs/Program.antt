-- What a call of the program does to its reader and its writer.
use Rattle.std.specs.Prelude.{ℕ, ◌≡◌, ◌⊎◌, List, Option, Some, None, IfSome}
use Rattle.std.specs.Io.KnownBytes.{Appends, Keeps}
use Rattle.resil_input.specs.Io.{AppendsPrefix}
use Rattle.resil_input.specs.Output.{bytes_of, code_of, memory_line, status_of, threads_line, usage_line}
use Rattle.resil_input.specs.declared.output.Output.{Output}
use Rattle.resil_input.specs.declared.output.Status.{Status}
use Rattle.resil_input.specs.declared.output.Status.TheVariants as status
use Rattle.resil_heads.specs.Refusal.{refusal_line}
use Rattle.resil_words.specs.declared.command_line.Request.{Request}
use Rattle.resil_words.specs.declared.command_line.Request.TheVariants as request
use Rattle.resil_words.specs.declared.command_line.RunOptions.{RunOptions}
use Rattle.resil_heads.specs.declared.refusal.InputRefusal.{InputRefusal}
use Rattle.resil_driver.specs.Answer.{IsAnswerOf, IsRefusedFor, LacksThread}

-- A status and a text that the program may return for what the words request and an input: the text
-- of the requested command, the line of the first step that refuses the input, of refused words, of
-- being out of memory, or, for `run` alone and if no step refuses the input, of a thread that can't
-- be started. If the reader doesn't say which bytes it has, nothing more is said of the text, of
-- the refusal or of the thread.
abbrev pub IsAnswer : Option Request → Option (List ℕ) → Status → List ℕ → Type 0
IsAnswer requested input status.Done text = (what : Request) × (requested ≡ Some what) × IfSome input (λ bytes. IsAnswerOf what bytes text)
IsAnswer requested input status.Refused text = (what : Request) × (requested ≡ Some what) × (why : InputRefusal) × (text ≡ refusal_line why)
    × IfSome input (λ bytes. IsRefusedFor what bytes why)
IsAnswer requested input status.Usage text = (requested ≡ None) × (text ≡ usage_line)
IsAnswer requested input status.NoMemory text = text ≡ memory_line
IsAnswer requested input status.NoThread text = (words : RunOptions) × (requested ≡ Some (request.Run words)) × (text ≡ threads_line)
    × IfSome input (λ bytes. LacksThread words bytes)
IsAnswer requested input status.Failed text = ⊥

-- an output that the program may return for what the words request and an input
abbrev pub IsAnswerTo : Option Request → Option (List ℕ) → Output → Type 0
IsAnswerTo requested input out = IsAnswer requested input (status_of out) (bytes_of out)

-- a whole answer of this status was written
abbrev pub Writes : Option Request → Option (List ℕ) → Option (List ℕ) → Option (List ℕ) → Status → Type 0
Writes requested input before after s = (text : List ℕ) × IsAnswer requested input s text × Appends before after text

-- What was written, by the status: an answer, or, after a failed read or write, nothing or a prefix
-- of an answer.
abbrev pub Drives : Option Request → Option (List ℕ) → Option (List ℕ) → Option (List ℕ) → Status → Type 0
Drives requested input before after status.Failed = Keeps before after ⊎ ((s : Status) × (text : List ℕ) × IsAnswer requested input s text × AppendsPrefix before after text)
Drives requested input before after s = Writes requested input before after s

-- what was written, by the number of the status
abbrev pub DrivesTo : Option Request → Option (List ℕ) → Option (List ℕ) → Option (List ℕ) → ℕ → Type 0
DrivesTo requested input before after code = (s : Status) × (code ≡ code_of s) × Drives requested input before after s

-- the line for being out of memory was written, or a write failed after a prefix of it
abbrev pub WritesNoMemory : Option (List ℕ) → Option (List ℕ) → ℕ → Type 0
WritesNoMemory before after code = ((code ≡ 3) × Appends before after memory_line) ⊎ ((code ≡ 4) × AppendsPrefix before after memory_line)
