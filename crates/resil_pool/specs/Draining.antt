-- When a pool isn't drained, and what comes back.
pub mod Report
pub mod Receipts
pub mod Remaining
pub use Report.*
pub use Receipts.*
pub use Remaining.*
use Rattle.std.specs.Prelude.{◌≡◌, ◌⊎◌, ◌↔◌, ℕ, Bool, true, false, List, All, Any, IsSome, Result, Ok, Err, length}
use Rattle.resil_pool.specs.Words.{IsPrefix, is_closed, MachineView, HasNoneToPick, AllDone, AreResultsOf, Row, Receipt}
use Rattle.resil_pool.specs.Lock.{NamesCaller, events_in}
use Rattle.resil_pool.specs.declared.draining.report.Report.{Report as DrainReport}
use Rattle.resil_pool.specs.declared.draining.report.DrainFault.{DrainFault}
use Rattle.resil_pool.specs.declared.draining.report.DrainFault.TheVariants.{PartMissing, Stranger, ReceiptsDiffer}
use Rattle.resil_pool.specs.Pool.{PoolView}
use Rattle.resil_pool.specs.Parts.{SeatView, CallerView, EndView}

-- all parts are there: the callers, and as many ends as there are workers
pub record HasAllHandles (pool : PoolView) (callers : List CallerView) (ends : List EndView) : Type 0 where
  pub numbered : AreNumbered pool.callers callers
  pub as_many : length ends ≡ pool.source.limits.max

abbrev pub IsPartMissing : DrainFault → Type 0
IsPartMissing (PartMissing pool closer callers ends) = Unit {0}
IsPartMissing _ = ⊥

abbrev pub IsStranger : DrainFault → Type 0
IsStranger Stranger = Unit {0}
IsStranger _ = ⊥

abbrev pub IsReceiptsDiffer : DrainFault → Type 0
IsReceiptsDiffer ReceiptsDiffer = Unit {0}
IsReceiptsDiffer _ = ⊥

-- the result is a refusal, and P holds of it
abbrev pub IsDrainError : (DrainFault → Type 0) → Result DrainReport DrainFault → Type 0
IsDrainError P (Ok report) = ⊥
IsDrainError P (Err fault) = P fault

-- if a part is missing, everything that was passed in comes back
abbrev pub HandsBack : PoolView → SeatView → List CallerView → List EndView → DrainFault → Type 0
HandsBack pool closer callers ends (PartMissing pool' closer' callers' ends') = (pool' ≡ pool) × (closer' ≡ closer) × (callers'.items ≡ callers) × (ends'.items ≡ ends)
HandsBack pool closer callers ends _ = Unit {0}

-- what is left of the machine isn't what the receipts say
abbrev pub Differ : ℕ → MachineView → List (List Receipt) → Type 0
Differ callers machine receipts = (rows : List Row) → AreResultsOf machine.jobs rows → ¬ AgreeWithReceipts callers machine.history rows receipts

-- a worker's end holds a refused run
abbrev pub HasRefused : List EndView → Type 0
HasRefused ends = Any (λ e. IsSome e.refused) ends

-- How a drain ended that had all its parts: what was left of its machine, closed, of the pool's limits; each submission in its history names one of
-- the pool's callers and those of each are on its receipts, as are the plans of its results, whatever the drain returns; whether each run that it
-- made itself was accepted, after which nothing is left to pick, or one was refused, and the machine was left as it is with that; and which of these
-- causes each refusal
pub record Ended (pool : PoolView) (callers : List CallerView) (ends : List EndView) (answer : Result DrainReport DrainFault) : Type 0 where
  pub machine : MachineView
  pub receipts : List (List Receipt)
  pub all_accepted : Bool
  pub limits : machine.limits ≡ pool.source.limits
  pub closed : is_closed machine.history ≡ true
  pub none_left : all_accepted ≡ true → HasNoneToPick machine
  pub refused : all_accepted ≡ false → (taken : MachineView) × LeftRefused taken machine
  pub handed_in : AreReceiptsOf callers receipts
  pub begins : All (λ c. IsPrefix (events_in c.seen) machine.history) callers
  pub submissions : AreSubmissions machine.history receipts
  pub no_others : All (NamesCaller pool.callers) machine.history
  pub agree : (rows : List Row) → AreResultsOf machine.jobs rows → AgreeWithReceipts pool.callers machine.history rows receipts
  pub stranger : IsDrainError IsStranger answer ↔ ((all_accepted ≡ false) ⊎ HasRefused ends ⊎ ¬ AllDone machine.jobs)
  pub receipts_differ : IsDrainError IsReceiptsDiffer answer ↔ ((all_accepted ≡ true) × ¬ HasRefused ends × AllDone machine.jobs × Differ pool.callers machine receipts)
