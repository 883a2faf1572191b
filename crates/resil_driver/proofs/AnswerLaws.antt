-- Lines that are answers.
use Rattle.std.proofs.Common.{refl, ◌≡◌, ℕ, List, Option, Some, Err, IfSome, inl, inr}
use Rattle.std.proofs.lemmas.Option.{IfSome_then}
use Rattle.resil_workers.specs.declared.batch.run.RunError.TheVariants as run_error
use Rattle.resil_input.specs.declared.output.Output.{Output}
use Rattle.resil_heads.specs.CommandError.{IsErrorOutput, IsRunError}
use Rattle.resil_heads.specs.Parts.{FitsLimit}
use Rattle.resil_words.specs.declared.command_line.Request.{Request}
use Rattle.resil_words.specs.declared.command_line.Request.TheVariants as request
use Rattle.resil_words.specs.declared.command_line.RunOptions.{RunOptions}
use Rattle.resil_heads.specs.declared.command_error.CommandError.{CommandError}
use Rattle.resil_heads.specs.declared.command_error.CommandError.TheVariants as error
use Rattle.resil_heads.specs.declared.refusal.InputRefusal.{InputRefusal}
use Rattle.resil_heads.specs.declared.refusal.InputRefusal.TheVariants as refusal
use Rattle.resil_driver.specs.Run.{HasRun, IsRunRefusal}
use Rattle.resil_driver.specs.Run.Play.{MayAnswerOnThreads}
use Rattle.resil_driver.specs.Answer.{IsRefusedFor, LacksThread}
use Rattle.resil_driver.specs.Program.{IsAnswerTo}

module _ (what : Request) (input : Option (List ℕ)) where
  -- the line of a refusal is an answer
  pub refusal_answers : (why : InputRefusal) (out : Output) → IfSome input (λ bytes. IsRefusedFor what bytes why) → IsErrorOutput (error.Refused why) out → IsAnswerTo (Some what) input out
  refusal_answers why out refused (inl memory) = rw memory refl
  refusal_answers why out refused (inr (status, line)) = rw status (what, refl, why, line, refused)

refused-short : (words : RunOptions) (input : List ℕ) (why : InputRefusal) → FitsLimit input → IsRunRefusal MayAnswerOnThreads words input why → IsRefusedFor (request.Run words) input why
refused-short words input refusal.TooLong short h = absurd h
refused-short words input why short h = (short, h)

-- The output for an error of `run` is an answer. Its input has these bytes, if the reader says which bytes it has.
pub run_stopped : (words : RunOptions) (input : Option (List ℕ)) (bytes : List ℕ) (s : CommandError) (out : Output) → IfSome input (λ told. (bytes ≡ told) × FitsLimit told)
    → IsRunError (HasRun MayAnswerOnThreads words bytes (Err run_error.NoThread)) (IsRunRefusal MayAnswerOnThreads words bytes) s → IsErrorOutput s out → IsAnswerTo (Some (request.Run words)) input out
run_stopped words input bytes error.Memory out whole h is = rw is refl
run_stopped words input bytes error.NoThread out whole h is =
    rw is (words, refl, refl, IfSome_then _ whole (λ told here. let lacks : LacksThread words told = (here.1, rw here.0 at h) in lacks))
run_stopped words input bytes (error.Refused why) out whole h is =
    refusal_answers (request.Run words) input why out (IfSome_then _ whole (λ told here. refused-short words told why here.1 (rw here.0 at h))) is
