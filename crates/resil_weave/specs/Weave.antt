-- Which text `weave` writes for an input, and which refusal an input has.
use Rattle.std.specs.Prelude.{ℕ, ◌≡◌, List}
use Rattle.resil_permit.specs.WordMachine.{start, CanMakeAll, after_steps, all_shown}
use Rattle.resil_permit.specs.Weaving.{IsRefusedFor}
use Rattle.resil_permit.specs.declared.step.Step.{Step}
use Rattle.resil_permit.specs.declared.interleaving.WeaveError.{WeaveError}
use Rattle.resil_permit.specs.declared.interleaving.WeaveError.TheVariants as weave_error
use Rattle.resil_weave.specs.Head.{weave_head_of}
use Rattle.resil_weave.specs.Rows.{IsWeaveBody, IsWeaveBodyError}
use Rattle.resil_weave.specs.Woven.{woven_text}
use Rattle.resil_heads.specs.Parts.{SplitsInto, IsPartRefusal}
use Rattle.resil_heads.specs.declared.refusal.InputRefusal.{InputRefusal}
use Rattle.resil_heads.specs.declared.refusal.InputRefusal.TheVariants as refusal
use Rattle.resil_heads.specs.declared.refusal.StepRefusal.{StepRefusal}
use Rattle.resil_heads.specs.declared.refusal.StepRefusal.TheVariants as step

-- The input splits into a head with permits and a body of steps, which the word machine can make
-- one after the other, and the text is that of what each step shows and of the last word.
abbrev pub IsWeaveText : List ℕ → List ℕ → Type 0
IsWeaveText input text = (permits : ℕ) × (body : List ℕ) × (steps : List Step)
    × SplitsInto weave_head_of input permits body × IsWeaveBody body steps × CanMakeAll (start permits) steps
    × (text ≡ woven_text steps (all_shown (start permits) steps) (after_steps (start permits) steps).word)

-- the error of a step that can't be made, at its position
abbrev pub step_error : ℕ → StepRefusal → WeaveError
step_error position step.NotLoaded = weave_error.NotLoaded position
step_error position step.NotHolding = weave_error.NotHolding position
step_error position step.StillLoaded = weave_error.StillLoaded position
step_error position step.NotRetired = weave_error.NotRetired position

-- the refusal of the first step that refuses the input: its parts, its head, its body, and then a
-- caller's step that can't be made after those before it
abbrev pub IsWeaveRefusal : List ℕ → InputRefusal → Type 0
IsWeaveRefusal input (refusal.Step position why) = (permits : ℕ) × (body : List ℕ) × (steps : List Step)
    × SplitsInto weave_head_of input permits body × IsWeaveBody body steps × IsRefusedFor permits steps (step_error position why)
IsWeaveRefusal input why = IsPartRefusal weave_head_of IsWeaveBodyError input why
