-- What became of a job that was submitted and waited for.
use Rattle.std.specs.Prelude.{Bool, true, false}
use Rattle.resil_executor.specs.Words.{Sizes, Id, Reply, View, NoAnswer}
use Rattle.resil_executor.specs.Log.{Entry}
use Rattle.resil_executor.specs.Turn.{SeesAccepted, SeesRefusal}
use Rattle.resil_executor.specs.declared.no_answer.NoAnswer.TheVariants.{Refused, OutOfTime, Unrun}

-- a job that the pool refused was refused, and one whose answer didn't come wasn't
abbrev pub is_refused : NoAnswer → Bool
is_refused (Refused _) = true
is_refused OutOfTime = false
is_refused Unrun = false

module _ {X K : Type 0} where
  -- the visitor saw that the job was accepted, and wrote nothing else
  abbrev pub SeesItAccepted : Sizes → View K (Entry X) → X → View K (Entry X) → Type 0
  SeesItAccepted limits before work after = (id : Id) × (reply : Reply) × SeesAccepted limits before id reply work after

  -- what the visitor saw if no answer came: the real refusal that is reported, or that the job was accepted
  abbrev pub SeesNoAnswer : Sizes → View K (Entry X) → X → View K (Entry X) → NoAnswer → Type 0
  SeesNoAnswer limits before work after (Refused why) = SeesRefusal limits before why after
  SeesNoAnswer limits before work after OutOfTime = SeesItAccepted limits before work after
  SeesNoAnswer limits before work after Unrun = SeesItAccepted limits before work after

  -- a visitor that began with this view has seen that the job was accepted
  abbrev pub WasSubmitted : Sizes → View K (Entry X) → X → Type 0
  WasSubmitted limits before work = (after : View K (Entry X)) × SeesItAccepted limits before work after

  -- a visitor that began with this view has seen what goes with this lack of an answer
  abbrev pub WasUnanswered : Sizes → View K (Entry X) → X → NoAnswer → Type 0
  WasUnanswered limits before work none = (after : View K (Entry X)) × SeesNoAnswer limits before work after none
