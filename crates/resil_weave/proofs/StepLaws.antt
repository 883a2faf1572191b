-- What an error of making steps is to the command.
use Rattle.std.proofs.Common.{◌≤◌, arith, ℕ, List}
use Rattle.resil_permit.specs.Weaving.{IsRefusedFor as IsStuckAt}
use Rattle.resil_permit.specs.declared.step.Step.{Step}
use Rattle.resil_permit.specs.declared.interleaving.WeaveError.{WeaveError}
use Rattle.resil_permit.specs.declared.interleaving.WeaveError.TheVariants as weave_error
use Rattle.resil_heads.specs.CommandError.{IsError, from_weave_error}
use Rattle.resil_heads.specs.Parts.{SplitsInto}
use Rattle.resil_weave.specs.Head.{weave_head_of}
use Rattle.resil_weave.specs.Rows.{IsWeaveBody}
use Rattle.resil_weave.specs.Weave.{IsWeaveRefusal}

-- what an error of a weaving is to the whole, where the permits are few enough
pub weave-refused : (input : List ℕ) (permits : ℕ) (body : List ℕ) (steps : List Step) (e : WeaveError) → permits ≤ 65535 → SplitsInto weave_head_of input permits body
    → IsWeaveBody body steps → IsStuckAt permits steps e → IsError (IsWeaveRefusal input) (from_weave_error e)
weave-refused input permits body steps weave_error.Memory few parts is_body stuck = tt
weave-refused input permits body steps weave_error.TooManyPermits few parts is_body stuck = absurd (omega (arith, few, stuck))
weave-refused input permits body steps e few parts is_body stuck = (permits, body, steps, parts, is_body, stuck)
