-- The text of the numbers of a history, and of pools: a record for each, under a header.
use Rattle.std.specs.Prelude.{ℕ, ◌∷◌, ◌++◌, [], List, Option, Some, None, codes, decimal, map, option_to_list}
use Rattle.std.specs.List.{join_with_byte}
use Rattle.csv.specs.Writing.{comma}
use Rattle.resil_input.specs.CsvTable.{table_text}
use Rattle.resil_rule.specs.Limits.{Sizes}
use Rattle.resil_stats.specs.Text.{span_word}
use Rattle.resil_simulate.specs.declared.numbers.PoolNumbers.{PoolNumbers}

-- the fields of the header
abbrev pub pools_header : List (List ℕ)
pools_header =
    codes "core" ∷ codes "max" ∷ codes "queue" ∷ codes "submitted" ∷ codes "refused" ∷ codes "wait_median" ∷ codes "wait_p99" ∷ codes "wait_most"
    ∷ codes "most_waiting" ∷ codes "most_workers" ∷ codes "busy" ∷ []

-- the fields of numbers
abbrev pub number_fields : PoolNumbers → List (List ℕ)
number_fields numbers =
    decimal numbers.submitted ∷ decimal numbers.refused ∷ span_word numbers.waits.median ∷ span_word numbers.waits.p99 ∷ span_word numbers.waits.most
    ∷ decimal numbers.most_waiting ∷ decimal numbers.most_workers ∷ span_word numbers.busy ∷ []

-- the fields of sizes, which are empty for what really happened
abbrev pub size_fields : Option Sizes → List (List ℕ)
size_fields None = [] ∷ [] ∷ [] ∷ []
size_fields (Some sizes) = decimal sizes.core ∷ decimal sizes.max ∷ decimal sizes.queue ∷ []

abbrev pub size_text : Option Sizes → List ℕ
size_text sizes = join_with_byte comma (size_fields sizes)

-- the fields of a pool
abbrev pub pool_fields : Option Sizes → PoolNumbers → List (List ℕ)
pool_fields sizes numbers = size_fields sizes ++ number_fields numbers

-- the header, then a record of what really happened if that is known, then one for each pool, in order
abbrev pub pools_text : Option PoolNumbers → List (Sizes × PoolNumbers) → List ℕ
pools_text own pools = table_text (pools_header ∷ (map (pool_fields None) (option_to_list own) ++ map (λ pool. pool_fields (Some pool.0) pool.1) pools))
