-- Why a command has no text, and what is written then: it is out of memory, at any step; a thread couldn't be started; or the input is
-- refused.
use Rattle.std.specs.Prelude.{◌≡◌, ◌⊎◌}
use Rattle.resil_heads.specs.declared.error.HeadError.{HeadError}
use Rattle.resil_heads.specs.declared.error.HeadError.TheVariants as head_error
use Rattle.resil_input.specs.declared.csv_rows.BodyError.{BodyError}
use Rattle.resil_input.specs.declared.csv_rows.BodyError.TheVariants as body_error
use Rattle.resil_input.specs.Output.{bytes_of, status_of}
use Rattle.resil_input.specs.declared.output.Output.{Output}
use Rattle.resil_input.specs.declared.output.Output.TheVariants as output
use Rattle.resil_input.specs.declared.output.Status.TheVariants as status
use Rattle.resil_permit.specs.declared.interleaving.WeaveError.{WeaveError}
use Rattle.resil_permit.specs.declared.interleaving.WeaveError.TheVariants as weave_error
use Rattle.resil_heads.specs.Refusal.{refusal_line}
use Rattle.resil_heads.specs.declared.command_error.CommandError.{CommandError}
use Rattle.resil_heads.specs.declared.command_error.CommandError.TheVariants as error
use Rattle.resil_heads.specs.declared.refusal.InputRefusal.{InputRefusal}
use Rattle.resil_heads.specs.declared.refusal.InputRefusal.TheVariants as refusal
use Rattle.resil_heads.specs.declared.refusal.StepRefusal.TheVariants as step

-- an error of a command of one thread: memory, or a refusal that is one of those given
abbrev pub IsError : (InputRefusal → Type 0) → CommandError → Type 0
IsError IsWhy error.Memory = Unit {0}
IsError IsWhy error.NoThread = ⊥
IsError IsWhy (error.Refused why) = IsWhy why

-- an error of `run`: memory, a thread that can't be started if this is given, or a refusal that is one of those given
abbrev pub IsRunError : Type 0 → (InputRefusal → Type 0) → CommandError → Type 0
IsRunError LacksThread IsWhy error.Memory = Unit {0}
IsRunError LacksThread IsWhy error.NoThread = LacksThread
IsRunError LacksThread IsWhy (error.Refused why) = IsWhy why

-- the error of a command for that of its head
abbrev pub from_head_error : HeadError → CommandError
from_head_error head_error.Memory = error.Memory
from_head_error why = error.Refused (refusal.Head why)

-- the error of a command for that of its body
abbrev pub from_body_error : BodyError → CommandError
from_body_error body_error.Memory = error.Memory
from_body_error body_error.BadHeader = error.Refused refusal.BadHeader
from_body_error (body_error.BadRow position) = error.Refused (refusal.BadRow position)

-- the error of `weave` for that of making its steps
abbrev pub from_weave_error : WeaveError → CommandError
from_weave_error weave_error.Memory = error.Memory
from_weave_error weave_error.TooManyPermits = error.Refused (refusal.Head head_error.TooManyPermits)
from_weave_error (weave_error.NotLoaded position) = error.Refused (refusal.Step position step.NotLoaded)
from_weave_error (weave_error.NotHolding position) = error.Refused (refusal.Step position step.NotHolding)
from_weave_error (weave_error.StillLoaded position) = error.Refused (refusal.Step position step.StillLoaded)
from_weave_error (weave_error.NotRetired position) = error.Refused (refusal.Step position step.NotRetired)

-- The output if a command has no text: the line of the refusal, of memory or of threads. The line of a refusal may be out of memory too.
abbrev pub IsErrorOutput : CommandError → Output → Type 0
IsErrorOutput error.Memory out = out ≡ output.NoMemory
IsErrorOutput error.NoThread out = out ≡ output.NoThread
IsErrorOutput (error.Refused why) out = (out ≡ output.NoMemory) ⊎ ((status_of out ≡ status.Refused) × (bytes_of out ≡ refusal_line why))
