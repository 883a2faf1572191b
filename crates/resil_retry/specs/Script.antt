-- The outcomes of a script, the answer to one call, and what is left for the next call.
use Rattle.std.specs.Prelude.{List, [], ◌∷◌, Option, Some, None}
use Rattle.std.specs.Arc.{arc_value}
use Rattle.resil_retry.specs.declared.outcome.Outcome.{Outcome}
use Rattle.resil_retry.specs.declared.script.Outcomes.{Outcomes}
use Rattle.resil_retry.specs.declared.script.Outcomes.TheVariants.{One, Many, Shared}

-- the outcomes, wherever they are kept
abbrev pub outcomes_at : Outcomes → List Outcome
outcomes_at (One outcome) = outcome ∷ []
outcomes_at (Many outcomes) = outcomes.items
outcomes_at (Shared outcomes) = (arc_value outcomes).items

-- the first outcome; a list without one isn't a script
abbrev pub first : List Outcome → Option Outcome
first [] = None
first (outcome ∷ _) = Some outcome

-- the list without its first outcome, unless that is the only one
abbrev pub rest : List Outcome → List Outcome
rest [] = []
rest (outcome ∷ []) = outcome ∷ []
rest (_ ∷ next ∷ outcomes) = next ∷ outcomes
