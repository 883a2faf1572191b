-- The fields of a run: its outcome, its calls, its waits, and its questions to bulkheads, with their answers.
use Rattle.std.specs.Prelude.{ℕ, ◌∷◌, ◌++◌, [], Bool, true, false, List, codes, map}
use Rattle.std.specs.Fmt.{decimal}
use Rattle.std.specs.List.{join_with_byte}
use Rattle.resil_decor.specs.declared.permitter.Asked.{Asked}
use Rattle.resil_decor.specs.Run.{RunView}
use Rattle.resil_input.specs.OutcomeText.{outcome_text}

-- items with semicolons (59) between them; empty if there are none
abbrev pub items_text : List (List ℕ) → List ℕ
items_text items = join_with_byte 59 items

-- waits, each a decimal number of milliseconds
abbrev pub waits_text : List ℕ → List ℕ
waits_text waits = items_text (map decimal waits)

-- the answer of a bulkhead: `y` if it granted a permit
abbrev pub answer_letter : Bool → List ℕ
answer_letter true = codes "y"
answer_letter false = codes "n"

-- the id of a bulkhead that a permit was requested from, and its answer
abbrev pub asked_item : Asked → List ℕ
asked_item asked = decimal asked.id ++ answer_letter asked.granted

-- the questions to bulkheads, in the order of asking
abbrev pub asked_text : List Asked → List ℕ
asked_text asked = items_text (map asked_item asked)

-- the fields of a run
abbrev pub run_fields : RunView → List (List ℕ)
run_fields run = outcome_text run.outcome ∷ decimal run.calls ∷ waits_text run.waits ∷ asked_text run.asked ∷ []
