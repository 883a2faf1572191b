-- What the text of `simulate` is for an input, and why it has none.
use Rattle.std.specs.Prelude.{ℕ, ◌≡◌, ◌⊎◌, ◌∷◌, ◌==◌, ◌&&◌, [], All, Bool, List, Option, None, Some, if◌then◌else◌, length, map, ⊤}
use Rattle.resil_heads.specs.Parts.{IsPartRefusal, SplitsInto}
use Rattle.resil_heads.specs.declared.refusal.InputRefusal.{InputRefusal}
use Rattle.resil_heads.specs.declared.refusal.InputRefusal.TheVariants as refusal
use Rattle.resil_input.specs.declared.csv_rows.BodyError.TheVariants as body_error
use Rattle.resil_jdk.specs.Timed.{events_in, times_in}
use Rattle.resil_jdk.specs.declared.timed.TimedJdkEvent.{TimedJdkEvent}
use Rattle.resil_jdk.specs.declared.event.JdkEvent.{JdkEvent}
use Rattle.resil_jdk.specs.declared.event.JdkEvent.TheVariants.{Resized}
use Rattle.resil_rule.specs.Limits.{Sizes}
use Rattle.resil_virtual.specs.Load.{IsLoad}
use Rattle.resil_virtual.specs.Simulated.{IsSimulated}
use Rattle.resil_virtual.specs.declared.arrival.Arrival.{Arrival}
use Rattle.resil_virtual.specs.declared.virtual_pool.VirtualPool.{VirtualPool}
use Rattle.resil_simulate.specs.Head.{LoadPlan, is_pool, load_head_of}
use Rattle.resil_simulate.specs.Load.{IsHistoryLoadRefusal, IsLoadRefusal, IsUsable, arrivals_of, jobs_in}
use Rattle.resil_simulate.specs.Numbers.{AreNumbersOf}
use Rattle.resil_simulate.specs.Rows.{IsBodyRefused, IsHistoryBody, IsLoadBody}
use Rattle.resil_simulate.specs.Table.{pools_text}
use Rattle.resil_simulate.specs.Version.{version_text}
use Rattle.resil_simulate.specs.declared.head.Ways.{Ways}
use Rattle.resil_simulate.specs.declared.command.LoadView.{LoadView}
use Rattle.resil_simulate.specs.declared.command.LoadView.TheVariants as load_view
use Rattle.resil_simulate.specs.declared.numbers.PoolNumbers.{PoolNumbers}
use Rattle.resil_simulate.specs.declared.rows.LoadRow.{LoadRow}

-- ---- The pools.

-- A recorder may write the largest possible maximum size into a head, and a resize before all else: its pool begins with the sizes of that.
abbrev pub resized_sizes : Sizes → JdkEvent → Sizes
resized_sizes sizes (Resized core max) = let own : Sizes = record { core = core; max = max; queue = sizes.queue } in if is_pool own then own else sizes
resized_sizes sizes event = sizes

abbrev pub first_sizes : Sizes → List TimedJdkEvent → Sizes
first_sizes sizes [] = sizes
first_sizes sizes (timed ∷ history) = resized_sizes sizes timed.event

abbrev pub own_sizes : Bool → List TimedJdkEvent → Sizes → Sizes
own_sizes is_one history sizes = if is_one && (sizes.max == 536870911) then first_sizes sizes history else sizes

-- the pools that a load is carried out on: those that the head names, or that of the recorder that wrote the pool that it names
abbrev pub pools_of : List Sizes → List TimedJdkEvent → List Sizes
pools_of pools history = map (own_sizes (length pools == 1) history) pools

-- a pool of sizes whose workers end and wake in this way
abbrev pub pool_of : Sizes → Ways → VirtualPool
pool_of sizes ways = record { limits = sizes; time_out = ways.time_out; idle_for = ways.idle_for; wakes = ways.wakes }

-- ---- The jobs.

-- the jobs of a history, which can be carried out, and its numbers, which are those of what really happened
abbrev pub IsLoadOf : List TimedJdkEvent → LoadPlan → List Arrival → Option PoolNumbers → List Sizes → Type 0
IsLoadOf history plan arrivals own pools = (numbers : PoolNumbers) × IsUsable plan.terms history × (arrivals ≡ jobs_in plan.terms history) × (own ≡ Some numbers)
    × AreNumbersOf plan.terms.made (events_in history) (times_in history) numbers × IsLoad plan.ways.idle_for plan.ways.wakes arrivals × (pools ≡ pools_of plan.pools history)

-- the jobs of a body: those of its rows, or those of the history that it is; and the pools that they are carried out on
abbrev pub AreArrivals : List ℕ → LoadPlan → List Arrival → Option PoolNumbers → List Sizes → Type 0
AreArrivals body plan arrivals own pools =
    ((rows : List LoadRow) × IsLoadBody body rows × (arrivals ≡ arrivals_of rows) × (own ≡ None) × IsLoad plan.ways.idle_for plan.ways.wakes arrivals × (pools ≡ pools_of plan.pools []))
    ⊎ ((history : List TimedJdkEvent) × IsHistoryBody body history × IsLoadOf history plan arrivals own pools)

-- the result of a load in a pool: the numbers of its history there
abbrev pub IsPoolRun : Ways → List Arrival → Sizes → PoolNumbers → Type 0
IsPoolRun ways arrivals sizes numbers = (history : List TimedJdkEvent) × IsSimulated (pool_of sizes ways) arrivals history × AreNumbersOf 0 (events_in history) (times_in history) numbers

-- the pools of a head can be shown: the history is that of one
abbrev pub AreShown : LoadView → ℕ → Type 0
AreShown load_view.Numbers pools = ⊤
AreShown load_view.History pools = pools ≡ 1

-- the head of an input says this, its pools can be shown, and its body has these jobs, for these pools; this is what really happened
abbrev pub IsRead : LoadView → List ℕ → LoadPlan → List Arrival → Option PoolNumbers → List Sizes → Type 0
IsRead shown input plan arrivals own pools = (body : List ℕ) × SplitsInto load_head_of input plan body × AreShown shown (length plan.pools) × AreArrivals body plan arrivals own pools

-- ---- The texts.

-- the text of the numbers of what really happened, and of each pool, in order
abbrev pub IsTableText : List ℕ → List ℕ → Type 0
IsTableText input text = (plan : LoadPlan) × (arrivals : List Arrival) × (own : Option PoolNumbers) × (done : List (Sizes × PoolNumbers))
    × IsRead load_view.Numbers input plan arrivals own (map (λ pool. pool.0) done) × All (λ pool. IsPoolRun plan.ways arrivals pool.0 pool.1) done × (text ≡ pools_text own done)

-- the text of the history in the one pool
abbrev pub IsHistoryText : List ℕ → List ℕ → Type 0
IsHistoryText input text = (plan : LoadPlan) × (sizes : Sizes) × (arrivals : List Arrival) × (own : Option PoolNumbers) × (history : List TimedJdkEvent)
    × IsRead load_view.History input plan arrivals own (sizes ∷ []) × IsSimulated (pool_of sizes plan.ways) arrivals history × (text ≡ version_text sizes plan.ways history)

-- which text is written of a load
abbrev pub text_of : LoadView → List ℕ → List ℕ → Type 0
text_of load_view.Numbers = IsTableText
text_of load_view.History = IsHistoryText

-- ---- The refusals.

-- why a body has no jobs: it is refused; or its rows, or its history under this head, can't be carried out
abbrev pub IsArrivalsRefusal : List ℕ → LoadPlan → InputRefusal → Type 0
IsArrivalsRefusal body plan refusal.BadHeader = IsBodyRefused body body_error.BadHeader
IsArrivalsRefusal body plan (refusal.BadRow position) = IsBodyRefused body (body_error.BadRow position)
IsArrivalsRefusal body plan (refusal.Head why) = (history : List TimedJdkEvent) × IsHistoryBody body history × IsHistoryLoadRefusal plan.ways plan.terms history (refusal.Head why)
IsArrivalsRefusal body plan (refusal.Load position why) =
    ((rows : List LoadRow) × IsLoadBody body rows × IsLoadRefusal plan.ways (arrivals_of rows) (refusal.Load position why))
    ⊎ ((history : List TimedJdkEvent) × IsHistoryBody body history × IsHistoryLoadRefusal plan.ways plan.terms history (refusal.Load position why))
IsArrivalsRefusal body plan why = ⊥

-- why an input has no head that can be read
abbrev pub IsHeadRefusal : List ℕ → InputRefusal → Type 0
IsHeadRefusal input why = IsPartRefusal load_head_of (λ _ _. ⊥) input why

-- why a body is refused if its head can be read and its pools can be shown
abbrev pub IsRestRefusal : LoadView → List ℕ → InputRefusal → Type 0
IsRestRefusal shown input why = (plan : LoadPlan) × (body : List ℕ) × SplitsInto load_head_of input plan body × AreShown shown (length plan.pools) × IsArrivalsRefusal body plan why

-- Why there is no text, in this order: the head can't be read; its pools can't be shown; and, only if they can, the body has no jobs.
abbrev pub IsSimulateRefusal : LoadView → List ℕ → InputRefusal → Type 0
IsSimulateRefusal shown input refusal.NoBody = IsHeadRefusal input refusal.NoBody
IsSimulateRefusal shown input (refusal.Head why) = IsHeadRefusal input (refusal.Head why) ⊎ IsRestRefusal shown input (refusal.Head why)
IsSimulateRefusal shown input refusal.ManyPools = (plan : LoadPlan) × (body : List ℕ) × SplitsInto load_head_of input plan body × ¬ AreShown shown (length plan.pools)
IsSimulateRefusal shown input why = IsRestRefusal shown input why
