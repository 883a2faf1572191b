-- What follows of a history that was read, with its results or without.
use Rattle.std.proofs.Common.{ℕ, List, Option, Result}
use Rattle.resil_heads.specs.CommandError.{IsError, from_body_error}
use Rattle.resil_heads.specs.Parts.{SplitsInto}
use Rattle.resil_heads.specs.declared.command_error.CommandError.{CommandError}
use Rattle.resil_heads.specs.declared.command_error.CommandError.TheVariants as error
use Rattle.resil_heads.specs.declared.error.HeadError.{HeadError}
use Rattle.resil_heads.specs.declared.refusal.LoadRefusal.TheVariants.{TimeGoesBack}
use Rattle.resil_heads.specs.declared.refusal.InputRefusal.TheVariants as refusal
use Rattle.resil_input.specs.declared.csv_rows.BodyError.{BodyError}
use Rattle.resil_input.specs.declared.csv_rows.BodyError.TheVariants as body_error
use Rattle.resil_stats.specs.Results.{history_part}
use Rattle.resil_view.specs.Read.{AreRead, IsOrderRefusal, IsReadFrom, IsReadRefusal, IsResultsRefusal}

module _ {Head History : Type 0} (head_of : List ℕ → Result Head HeadError) (IsHistory : List ℕ → History → Option (List ℕ) → Type 0) (IsBad : List ℕ → BodyError → Type 0) where
  -- the error of a history that can't be read
  pub history-refused : (input : List ℕ) (said : Head) (body : List ℕ) (why : BodyError) → SplitsInto head_of input said body → IsBad (history_part body) why
      → IsError (IsReadRefusal head_of IsHistory IsBad input) (from_body_error why)
  history-refused input said body body_error.Memory split is = tt
  history-refused input said body body_error.BadHeader split is = (said, body, split, is)
  history-refused input said body (body_error.BadRow position) split is = (said, body, split, is)

  module _ (input : List ℕ) (said : Head) (history : History) (times : Option (List ℕ)) (results : Option (List ℕ)) (read : IsReadFrom head_of IsHistory input said history times results) where
    -- the error of a history that was read, but not its results
    pub results-refused : (why : CommandError) → IsError (IsResultsRefusal results) why → IsError (IsReadRefusal head_of IsHistory IsBad input) why
    results-refused error.Memory is = tt
    results-refused error.NoThread is = is
    results-refused (error.Refused refusal.BadResult) is = (said, history, times, results, read, is)
    results-refused (error.Refused why) is = absurd is

    -- the error of a history that was read with its results, and whose times don't ascend
    pub order-refused : AreRead results → (why : CommandError) → IsError (IsOrderRefusal times) why → IsError (IsReadRefusal head_of IsHistory IsBad input) why
    order-refused are error.Memory is = tt
    order-refused are error.NoThread is = is
    order-refused are (error.Refused (refusal.Load position TimeGoesBack)) is = (said, history, times, results, read, are, is)
    order-refused are (error.Refused why) is = absurd is
