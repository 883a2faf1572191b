-- The id that two fields are read as.
use Rattle.std.specs.Prelude.{ℕ, List, Option, option_map, option_and_then}
use Rattle.resil_rule.specs.declared.event.Id.{Id}
use Rattle.resil_input.specs.Number.{parse_caller, parse_number}

-- a caller and a number
abbrev pub parse_id : List ℕ → List ℕ → Option Id
parse_id caller number = option_and_then (λ c. option_map (λ n. record { caller = c; number = n }) (parse_number number)) (parse_caller caller)
