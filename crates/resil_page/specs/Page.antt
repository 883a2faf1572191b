-- What a page is answered: the output of a command for an input, and where its bytes are.
use Rattle.std.specs.Prelude.{ℕ, ◌≡◌, ◌≤◌, ◌<◌, ◌++◌, ◌⊎◌, ◌==◌, if◌then◌else◌, List, Option, Some, None, length, drop}
use Rattle.resil_heads.specs.Output.{IsOutputFor, IsRefusalLine}
use Rattle.resil_heads.specs.declared.refusal.InputRefusal.{InputRefusal}
use Rattle.resil_input.specs.Io.{input_limit}
use Rattle.resil_input.specs.Output.{bytes_of, code_of, status_of}
use Rattle.resil_input.specs.declared.output.Output.{Output}
use Rattle.resil_input.specs.declared.output.Output.TheVariants as output
use Rattle.resil_page.specs.Head.{IsHeadRefusal, IsHeadText}
use Rattle.resil_page.specs.declared.head.HeadOf.TheVariants as head_of
use Rattle.resil_page.specs.declared.output.Command.{Command}
use Rattle.resil_page.specs.declared.output.Command.TheVariants.{Replay, Audit, View, Simulate, Head}
use Rattle.resil_replay.specs.Audit.{IsAuditText, IsAuditRefusal}
use Rattle.resil_replay.specs.Replay.{IsReplayText, IsReplayRefusal}
use Rattle.resil_simulate.specs.Command.{IsSimulateRefusal, text_of}
use Rattle.resil_simulate.specs.declared.command.LoadView.TheVariants.{Numbers, History}
use Rattle.resil_view.specs.Command.{IsViewRefusal, IsViewText}
use Rattle.resil_view.specs.declared.command.HistoryView.TheVariants.{Judge, Stats, Timeline}

-- the command of a number
abbrev pub command_of : ℕ → Option Command
command_of number =
    if number == 0 then Some Replay
    else if number == 1 then Some Audit
    else if number == 2 then Some (View Judge)
    else if number == 3 then Some (View Stats)
    else if number == 4 then Some (View Timeline)
    else if number == 5 then Some (Simulate Numbers)
    else if number == 6 then Some (Simulate History)
    else if number == 7 then Some (Head head_of.History)
    else if number == 8 then Some (Head head_of.Load)
    else None

-- the greatest length of an input of a command, in bytes: 16 mebibytes of a history, 4 of a load, and 1 of rows to run and of a history for `audit`
abbrev pub limit_of : Command → ℕ
limit_of Replay = input_limit
limit_of Audit = input_limit
limit_of (View view) = 16777216
limit_of (Simulate shown) = 4194304
limit_of (Head head_of.History) = 16777216
limit_of (Head head_of.Load) = 4194304

-- a text of a command for an input, and a refusal
abbrev pub IsCommandText : Command → List ℕ → List ℕ → Type 0
IsCommandText Replay = IsReplayText
IsCommandText Audit = IsAuditText
IsCommandText (View view) = IsViewText view
IsCommandText (Simulate shown) = text_of shown
IsCommandText (Head whose) = IsHeadText whose

abbrev pub IsCommandRefusal : Command → List ℕ → InputRefusal → Type 0
IsCommandRefusal Replay = IsReplayRefusal
IsCommandRefusal Audit = IsAuditRefusal
IsCommandRefusal (View view) = IsViewRefusal view
IsCommandRefusal (Simulate shown) = IsSimulateRefusal shown
IsCommandRefusal (Head whose) = IsHeadRefusal whose

-- an output of a command for an input
abbrev pub IsCommandOutput : Command → List ℕ → Output → Type 0
IsCommandOutput command input out = IsOutputFor (limit_of command) (IsCommandText command) (IsRefusalLine (IsCommandRefusal command)) input out

-- the same, or that of wrong words if no command is named
abbrev pub IsPageOutput : Option Command → List ℕ → Output → Type 0
IsPageOutput None input out = out ≡ output.Usage
IsPageOutput (Some command) input out = IsCommandOutput command input out

-- the bytes are at the front of a space if they fit, else the space is as it was
abbrev pub IsFilled : List ℕ → List ℕ → List ℕ → Type 0
IsFilled bytes before after = ((length bytes ≤ length before) × (after ≡ bytes ++ drop (length bytes) before)) ⊎ ((length before < length bytes) × (after ≡ before))

-- the caller got an output: its bytes, how many they are, and the number of its status
abbrev pub IsHandedOver : Output → List ℕ → List ℕ → ℕ → ℕ → Type 0
IsHandedOver out before after count code = IsFilled (bytes_of out) before after × (count ≡ length (bytes_of out)) × (code ≡ code_of (status_of out))
