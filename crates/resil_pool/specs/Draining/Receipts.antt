-- What the callers pass in when a pool is drained, and what is compared with their receipts: the history and the results.
use Rattle.std.specs.Prelude.{◌≡◌, ◌-◌, ◌≤◌, ℕ, List, Some, All, length, map, slice_get}
use Rattle.resil_pool.specs.Words.{Id, IsPrefix, Event, Row, LoggedEvent, Receipt}
use Rattle.resil_pool.specs.Lock.{NamesCaller, events_in, own_in}
use Rattle.resil_pool.specs.Parts.{CallerView, submission_of}
use Rattle.resil_pool.specs.Draining.Report.{receipts_at, AreReceiptsOf, AreSubmissions}

-- for each caller, from 1 on, its own entries in the log are its submissions with their plans, which are those on its receipts
abbrev pub AreLogged : List LoggedEvent → List (List Receipt) → Type 0
AreLogged seen receipts = (caller : ℕ) → 1 ≤ caller → caller ≤ length receipts → own_in caller seen ≡ map (submission_of caller) (receipts_at receipts caller)

-- their receipts, in order of their numbers; what each has seen is a prefix of what the closer has seen; and the submissions of each in what the closer has seen
-- are those on its receipts
pub record IsGathered (callers : List CallerView) (seen : List LoggedEvent) (receipts : List (List Receipt)) : Type 0 where
  pub told : AreReceiptsOf callers receipts
  pub begins : All (λ c. IsPrefix c.seen seen) callers
  pub submissions : AreSubmissions (events_in seen) receipts
  pub logged : AreLogged seen receipts

-- the receipt of the submission of this id has its number
pub record HasNumberedReceipt (receipts : List (List Receipt)) (id : Id) : Type 0 where
  pub from : 1 ≤ id.caller
  pub counted : 1 ≤ id.number
  pub receipt : Receipt
  pub there : slice_get (receipts_at receipts id.caller) (id.number - 1) ≡ Some receipt
  pub number : receipt.number ≡ id.number

-- it also has the plan that was run
pub record HasReceipt (receipts : List (List Receipt)) (row : Row) : Type 0 where
  pub numbered : HasNumberedReceipt receipts row.id
  pub plan : row.run.plan ≡ numbered.receipt.plan

-- the history and the results are what the receipts of this many callers say
pub record AgreeWithReceipts (callers : ℕ) (history : List Event) (rows : List Row) (receipts : List (List Receipt)) : Type 0 where
  pub submissions : AreSubmissions history receipts
  pub no_others : All (NamesCaller callers) history
  pub results : All (HasReceipt receipts) rows
