-- What is read of an input in order, for any heads and histories: its head, its history, the results after that, its times; and why it is
-- refused.
use Rattle.std.specs.Prelude.{ℕ, ◌≡◌, ◌≢◌, List, Option, Some, IfSome, Result, option_map}
use Rattle.resil_rule.specs.Timed.{AreAscending, GoesBackAt}
use Rattle.resil_heads.specs.Parts.{SplitsInto, IsPartRefusal}
use Rattle.resil_heads.specs.declared.error.HeadError.{HeadError}
use Rattle.resil_heads.specs.declared.refusal.LoadRefusal.TheVariants.{TimeGoesBack}
use Rattle.resil_heads.specs.declared.refusal.InputRefusal.{InputRefusal}
use Rattle.resil_heads.specs.declared.refusal.InputRefusal.TheVariants as refusal
use Rattle.resil_input.specs.declared.csv_rows.BodyError.{BodyError}
use Rattle.resil_input.specs.declared.csv_rows.BodyError.TheVariants as body_error
use Rattle.resil_stats.specs.Results.{AreResults, IsResultsError, history_part, results_of}
use Rattle.resil_stats.specs.declared.results.JobResult.{JobResult}

-- the text of results can be read, if there is one
abbrev pub AreRead : Option (List ℕ) → Type 0
AreRead results = IfSome results (λ text. (rows : List JobResult) × AreResults text rows)

-- the times of a history, if it has some, ascend
abbrev pub AreInOrder : Option (List ℕ) → Type 0
AreInOrder times = IfSome times AreAscending

-- why results can't be read: one of them isn't a result
abbrev pub IsResultsRefusal : Option (List ℕ) → InputRefusal → Type 0
IsResultsRefusal results refusal.BadResult = (text : List ℕ) × (results ≡ Some text) × (why : BodyError) × IsResultsError text why × (why ≢ body_error.Memory)
IsResultsRefusal results why = ⊥

-- why times are refused: the first one that is lower than the one before it
abbrev pub IsOrderRefusal : Option (List ℕ) → InputRefusal → Type 0
IsOrderRefusal times (refusal.Load position TimeGoesBack) = (all : List ℕ) × (times ≡ Some all) × GoesBackAt all position
IsOrderRefusal times why = ⊥

-- Below, `head_of` is what the bytes of a head say, `IsHistory` which history a body has with which times, and `IsBad` why a body has none.

-- what is read of an input: what its head says, its history, its times if it has some, and the text of the results after it
abbrev pub IsReadFrom : {Head History : Type 0} → (List ℕ → Result Head HeadError) → (List ℕ → History → Option (List ℕ) → Type 0) → List ℕ → Head → History → Option (List ℕ) → Option (List ℕ) → Type 0
IsReadFrom head_of IsHistory input said history times results = (body : List ℕ) × SplitsInto head_of input said body × IsHistory (history_part body) history times
    × (results ≡ option_map (λ parts. parts.1) (results_of body))

-- the head and the history of the input are read, and its results aren't
abbrev pub HasBadResult : {Head History : Type 0} → (List ℕ → Result Head HeadError) → (List ℕ → History → Option (List ℕ) → Type 0) → List ℕ → Type 0
HasBadResult {Head} {History} head_of IsHistory input = (said : Head) × (history : History) × (times : Option (List ℕ)) × (results : Option (List ℕ))
    × IsReadFrom head_of IsHistory input said history times results × IsResultsRefusal results refusal.BadResult

-- the input is read, and the first time that goes back is that of the event at a position
abbrev pub HasTimeBack : {Head History : Type 0} → (List ℕ → Result Head HeadError) → (List ℕ → History → Option (List ℕ) → Type 0) → List ℕ → ℕ → Type 0
HasTimeBack {Head} {History} head_of IsHistory input position = (said : Head) × (history : History) × (times : Option (List ℕ)) × (results : Option (List ℕ))
    × IsReadFrom head_of IsHistory input said history times results × AreRead results × IsOrderRefusal times (refusal.Load position TimeGoesBack)

-- the refusal of the first step that refuses the input: its parts, its head, its history; then one of the results, or a time
abbrev pub IsReadRefusal : {Head History : Type 0} → (List ℕ → Result Head HeadError) → (List ℕ → History → Option (List ℕ) → Type 0) → (List ℕ → BodyError → Type 0) → List ℕ → InputRefusal → Type 0
IsReadRefusal head_of IsHistory IsBad input refusal.BadResult = HasBadResult head_of IsHistory input
IsReadRefusal head_of IsHistory IsBad input (refusal.Load position TimeGoesBack) = HasTimeBack head_of IsHistory input position
IsReadRefusal head_of IsHistory IsBad input why = IsPartRefusal head_of (λ body error. IsBad (history_part body) error) input why
