-- What the report of a drained pool promises.
use Rattle.std.specs.Prelude.{◌≡◌, ℕ, ◌-◌, ◌≤◌, List, [], Some, All, Any, map, length, slice_get, slice_index_or}
use Rattle.std.specs.List.{range_with_len}
use Rattle.std.specs.List.Sorted.{IsPermutation}
use Rattle.resil_pool.specs.Words.{IsValue, submissions, accepted, Event, Row, Receipt}
use Rattle.resil_pool.specs.Parts.{CallerView, submit_of}

-- callers with the numbers 1 to this many, each once: there are this many callers, and each of the numbers is some caller's
pub record AreNumbered (count : ℕ) (callers : List CallerView) : Type 0 where
  pub as_many : length callers ≡ count
  pub each : (number : ℕ) → 1 ≤ number → number ≤ count → Any (λ c. c.number ≡ number) callers

-- the receipts of callers, in the order of the callers' numbers
pub record AreReceiptsOf (callers : List CallerView) (receipts : List (List Receipt)) : Type 0 where
  pub in_order : List CallerView
  pub same : IsPermutation callers in_order
  pub numbered : map (λ c. c.number) in_order ≡ range_with_len 1 (length in_order)
  pub handed_in : receipts ≡ map (λ c. c.receipts) in_order

-- the receipts of a caller: the first list is that of caller 1
abbrev pub receipts_at : List (List Receipt) → ℕ → List Receipt
receipts_at receipts caller = slice_index_or receipts (caller - 1) []

-- for each caller, from 1 on, its submissions in the history have the numbers and replies of its receipts, in their order
abbrev pub AreSubmissions : List Event → List (List Receipt) → Type 0
AreSubmissions history receipts = (caller : ℕ) → 1 ≤ caller → caller ≤ length receipts → submissions history caller ≡ map (submit_of caller) (receipts_at receipts caller)

-- the result of an accepted job: a run whose value its chain defines, of the plan that is on the job's receipt
pub record IsResult (receipts : List (List Receipt)) (row : Row) : Type 0 where
  pub value : IsValue row.run
  pub receipt : Receipt
  pub there : slice_get (receipts_at receipts row.id.caller) (row.id.number - 1) ≡ Some receipt
  pub number : receipt.number ≡ row.id.number
  pub plan : row.run.plan ≡ receipt.plan

-- each accepted job is collected exactly once, in order of acceptance
pub record AreCollected (history : List Event) (receipts : List (List Receipt)) (results : List Row) : Type 0 where
  pub once : map (λ row. row.id) results ≡ accepted history
  pub each : All (IsResult receipts) results
