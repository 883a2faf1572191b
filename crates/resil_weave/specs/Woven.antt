-- The text of what woven steps showed, and of the permit word after them.
use Rattle.std.specs.Prelude.{ℕ, ◌≡◌, ◌∷◌, ◌++◌, [], List, codes, length, map}
use Rattle.std.specs.Fmt.{decimal}
use Rattle.std.specs.List.{zip}
use Rattle.resil_permit.specs.declared.step.Step.{Step}
use Rattle.resil_permit.specs.declared.step.Step.TheVariants.{Load, Exchange, Add, Retire, Raise}
use Rattle.resil_permit.specs.declared.step.Shown.{Shown}
use Rattle.resil_permit.specs.declared.step.Shown.TheVariants.{Loaded, Refused, Took, Lost, Gave, Retired, Raised}
use Rattle.resil_permit.specs.WordMachine.{Machine, all_shown}
use Rattle.resil_input.specs.CsvTable.{table_text}

-- the fields of the header
abbrev pub woven_text_header : List (List ℕ)
woven_text_header = codes "step" ∷ codes "caller" ∷ codes "shown" ∷ []

-- the name of what a step showed
abbrev pub shown_name : Shown → List ℕ
shown_name Loaded = codes "loaded"
shown_name Refused = codes "refused"
shown_name Took = codes "took"
shown_name Lost = codes "lost"
shown_name Gave = codes "gave"
shown_name Retired = codes "retired"
shown_name Raised = codes "raised"

-- the fields of a record that names a caller
abbrev pub caller_fields : List ℕ → ℕ → List ℕ → List (List ℕ)
caller_fields name caller shown = name ∷ decimal caller ∷ shown ∷ []

-- the fields of a step and of what it showed
abbrev pub step_fields : Step → Shown → List (List ℕ)
step_fields (Load caller) shown = caller_fields (codes "load") caller (shown_name shown)
step_fields (Exchange caller) shown = caller_fields (codes "exchange") caller (shown_name shown)
step_fields (Add caller) shown = caller_fields (codes "add") caller (shown_name shown)
step_fields (Retire caller) shown = caller_fields (codes "retire") caller (shown_name shown)
step_fields (Raise caller) shown = caller_fields (codes "raise") caller (shown_name shown)

-- a record for each step that showed something, in order
abbrev pub step_records : List Step → List Shown → List (List (List ℕ))
step_records steps shown = map (λ p. step_fields p.0 p.1) (zip steps shown)

-- the fields of the last record: the permit word, which is the number of free permits
abbrev pub word_fields : ℕ → List (List ℕ)
word_fields word = codes "word" ∷ [] ∷ decimal word ∷ []

-- the header, then a record for each step, in order, then the record of the word
abbrev pub woven_text : List Step → List Shown → ℕ → List ℕ
woven_text steps shown word = table_text (woven_text_header ∷ (step_records steps shown ++ word_fields word ∷ []))

-- If all steps were made, each has a record.
abbrev pub EachStepHasRecord : Type 0
EachStepHasRecord = (m : Machine) (steps : List Step) → length (step_records steps (all_shown m steps)) ≡ length steps
