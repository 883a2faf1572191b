-- What the rows of a batch request, and what their callers have on their receipts.
use Rattle.std.specs.Prelude.{◌≡◌, ◌≤◌, ◌==◌, ℕ, List, All, length, map, filter}
use Rattle.std.specs.List.{range_with_len}
use Rattle.resil_decor.specs.Plan.{PlanView}
use Rattle.resil_pool.specs.declared.receipt.Receipt.{Receipt}
use Rattle.resil_pool.specs.declared.hold.JobRow.{JobRow}
use Rattle.resil_pool.specs.Parts.{CallerView}
use Rattle.resil_pool.specs.Draining.Report.{receipts_at}
use Rattle.resil_pool.specs.Lock.Turn.{PoolId}

-- a row names a caller from 1 to this many
abbrev pub IsFrom : ℕ → JobRow → Type 0
IsFrom callers row = (1 ≤ row.caller) × (row.caller ≤ callers)

-- the plans of a caller's rows, in row order
abbrev pub plans_of : List JobRow → ℕ → List PlanView
plans_of rows caller = map (λ row. row.plan) (filter (λ row. row.caller == caller) rows)

-- the plans on a caller's receipts
abbrev pub plans_on_receipts : CallerView → List PlanView
plans_on_receipts caller = map (λ receipt. receipt.plan) caller.receipts

-- for each caller, from 1 on, the plans on its receipts are those of its rows, in row order
abbrev pub ArePlansOf : List JobRow → List (List Receipt) → Type 0
ArePlansOf rows receipts = (caller : ℕ) → 1 ≤ caller → caller ≤ length receipts → map (λ receipt. receipt.plan) (receipts_at receipts caller) ≡ plans_of rows caller

-- callers of this pool, numbered from 1
pub record AreCallers (source : PoolId) (callers : List CallerView) : Type 0 where
  pub sources : All (λ c. c.source ≡ source) callers
  pub numbered : map (λ c. c.number) callers ≡ range_with_len 1 (length callers)

-- each caller has receipts for its rows
abbrev pub ReceiptsMatchRows : List JobRow → List CallerView → Type 0
ReceiptsMatchRows rows callers = All (λ c. plans_on_receipts c ≡ plans_of rows c.number) callers
