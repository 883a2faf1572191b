-- The script that a field is read as.
use Rattle.std.specs.Prelude.{ℕ, ◌==◌, ◌∷◌, [], List, Option, Some, None, map, option_map}
use Rattle.std.specs.List.{slice_split}
use Rattle.resil_retry.specs.declared.outcome.Outcome.{Outcome}
use Rattle.resil_input.specs.OutcomeText.{parse_outcome}

-- the values of a list, if none of them is missing
abbrev pub all_some : {A : Type 0} → List (Option A) → Option (List A)
all_some [] = Some []
all_some (None ∷ rest) = None
all_some (Some value ∷ rest) = option_map (λ values. value ∷ values) (all_some rest)

-- the parts of a text between its semicolons (59)
abbrev pub split_items : List ℕ → List (List ℕ)
split_items text = slice_split (λ byte. byte == 59) text

-- the outcomes that a text is read as: one or more, separated by semicolons
abbrev pub parse_script : List ℕ → Option (List Outcome)
parse_script text = all_some (map parse_outcome (split_items text))
