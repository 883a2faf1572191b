-- The outputs that refuse an input.
use Rattle.std.proofs.Common.{◌≡◌, ◌<◌, ℕ, false, true, List, inl, inr, length, refl, sym, subst, arith}
use Rattle.std.proofs.lemmas.Bool.Decides.{nat_tests}
use Rattle.resil_heads.specs.CommandError.{IsError, IsErrorOutput}
use Rattle.resil_heads.specs.Length.{is_too_long}
use Rattle.resil_heads.specs.Output.{IsLineFor, IsOutputFor, IsRefusalLine}
use Rattle.resil_heads.specs.Refusal.{refusal_line}
use Rattle.resil_heads.specs.declared.command_error.CommandError.{CommandError}
use Rattle.resil_heads.specs.declared.command_error.CommandError.TheVariants as error
use Rattle.resil_heads.specs.declared.refusal.InputRefusal.{InputRefusal}
use Rattle.resil_heads.specs.declared.refusal.InputRefusal.TheVariants as refusal
use Rattle.resil_input.specs.declared.output.Output.{Output}
use Rattle.resil_input.specs.declared.output.Output.TheVariants as output

module _ (limit : ℕ) (IsText : List ℕ → List ℕ → Type 0) (IsWhy : List ℕ → InputRefusal → Type 0) (input : List ℕ) where
  -- what is put out for a line that refuses the input
  line-output : (out : Output) (why : InputRefusal) → IsLineFor limit (IsRefusalLine IsWhy) input (refusal_line why) → IsErrorOutput (error.Refused why) out → IsOutputFor limit IsText (IsRefusalLine IsWhy) input out
  line-output out why is (inl none) = rw none tt
  line-output (output.Line l) why is (inr told) = subst (IsLineFor limit (IsRefusalLine IsWhy) input) (sym told.1) is
  line-output output.NoMemory why is (inr told) = tt
  line-output out why is (inr told) = absurd (cc told.0)

  -- what is put out for an error of a command
  pub error_answers : (why : CommandError) (out : Output) → is_too_long limit input ≡ false → IsError (IsWhy input) why → IsErrorOutput why out → IsOutputFor limit IsText (IsRefusalLine IsWhy) input out
  error_answers error.Memory out fits is made = rw made tt
  error_answers error.NoThread out fits is made = absurd is
  error_answers (error.Refused why) out fits is made = line-output out why (inr (fits, (why, is, refl))) made

  -- what is put out for an input that is too long, or whose head is
  pub too_long_answers : (out : Output) → is_too_long limit input ≡ true → IsErrorOutput (error.Refused refusal.TooLong) out → IsOutputFor limit IsText (IsRefusalLine IsWhy) input out
  too_long_answers out long made = line-output out refusal.TooLong (inl (long, refl)) made

-- an input past its limit is too long
pub longer_than : (limit : ℕ) (input : List ℕ) → limit < length input → is_too_long limit input ≡ true
longer_than limit input long = grind (arith, nat_tests, long)
