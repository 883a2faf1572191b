-- Which texts may answer an input, and why it may be refused. Each definition is a relation: a
-- given text is one that the command may write for the input, and a given refusal is that of the
-- first step that refuses the input. `run` may write any of several texts for one input, since its
-- threads run in any order.
use Rattle.std.specs.Prelude.{ℕ, ◌<◌, List, Err, length}
use Rattle.resil_input.specs.Io.{input_limit}
use Rattle.resil_workers.specs.declared.batch.run.RunError.TheVariants as run_error
use Rattle.resil_heads.specs.Parts.{FitsLimit}
use Rattle.resil_words.specs.declared.command_line.Request.{Request}
use Rattle.resil_words.specs.declared.command_line.Request.TheVariants as request
use Rattle.resil_words.specs.declared.command_line.RunOptions.{RunOptions}
use Rattle.resil_heads.specs.declared.refusal.InputRefusal.{InputRefusal}
use Rattle.resil_heads.specs.declared.refusal.InputRefusal.TheVariants as refusal
use Rattle.resil_driver.specs.Run.{HasRun, IsRunText, IsRunRefusal}
use Rattle.resil_driver.specs.Run.Play.{MayAnswerOnThreads}
use Rattle.resil_driver.specs.Command.{IsTextOf, IsRefusalOf}

-- a text of any command, for an input within the limit
abbrev pub IsTextFor : Request → List ℕ → List ℕ → Type 0
IsTextFor (request.Single single) input text = IsTextOf single input text
IsTextFor (request.Run words) input text = IsRunText MayAnswerOnThreads words input text

-- a refusal of an input within the limit by any command
abbrev pub IsRefusalFor : Request → List ℕ → InputRefusal → Type 0
IsRefusalFor (request.Single single) input why = IsRefusalOf single input why
IsRefusalFor (request.Run words) input why = IsRunRefusal MayAnswerOnThreads words input why

-- a text of any command, for an input of any length: only inputs within the limit have one
abbrev pub IsAnswerOf : Request → List ℕ → List ℕ → Type 0
IsAnswerOf requested input text = FitsLimit input × IsTextFor requested input text

-- a refusal of an input of any length: the length is checked first
abbrev pub IsRefusedFor : Request → List ℕ → InputRefusal → Type 0
IsRefusedFor requested input refusal.TooLong = input_limit < length input
IsRefusedFor requested input why = FitsLimit input × IsRefusalFor requested input why

-- A thread may be missing for an input of any length if its head and its rows are read without a
-- refusal, and the run of them ends this way.
abbrev pub LacksThread : RunOptions → List ℕ → Type 0
LacksThread words input = FitsLimit input × HasRun MayAnswerOnThreads words input (Err run_error.NoThread)
