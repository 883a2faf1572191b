-- What refuses a load, once its head is read.
use Rattle.resil_simulate.proofs.Words.{◌≡◌, ◌∷◌, [], ◌∙◌, List, Option, ℕ, ap, get_or, length, length-map, inl, inr, refl, subst, Arrival, AreArrivals, IsRead, Sizes, IsHistoryBody, AreShown, IsArrivalsRefusal, IsHeadRefusal, IsSimulateRefusal, LoadView, LoadPlan, load_head_of, IsHistoryLoadRefusal}
use Rattle.resil_jdk.specs.declared.timed.TimedJdkEvent.{TimedJdkEvent}
use Rattle.resil_simulate.specs.declared.command.LoadView.TheVariants as load_view
use Rattle.resil_simulate.specs.declared.numbers.PoolNumbers.{PoolNumbers}
use Rattle.resil_heads.specs.CommandError.{IsError}
use Rattle.resil_heads.specs.Parts.{SplitsInto}
use Rattle.resil_heads.specs.declared.command_error.CommandError.{CommandError}
use Rattle.resil_heads.specs.declared.command_error.CommandError.TheVariants as error
use Rattle.resil_heads.specs.declared.refusal.InputRefusal.TheVariants as refusal

module _ (plan : LoadPlan) (body : List ℕ) where
  -- the error of the jobs of a history
  pub history-refused : (history : List TimedJdkEvent) → IsHistoryBody body history → (why : CommandError) → IsError (IsHistoryLoadRefusal plan.ways plan.terms history) why → IsError (IsArrivalsRefusal body plan) why
  history-refused history are error.Memory is = tt
  history-refused history are error.NoThread is = is
  history-refused history are (error.Refused (refusal.Load position why)) is = inr (history, are, is)
  history-refused history are (error.Refused (refusal.Head why)) is = (history, are, is)
  history-refused history are (error.Refused why) is = absurd is

  -- the error of the jobs of an input
  pub arrivals-refused : (shown : LoadView) (input : List ℕ) → SplitsInto load_head_of input plan body → AreShown shown (length plan.pools) → (why : CommandError) → IsError (IsArrivalsRefusal body plan) why → IsError (IsSimulateRefusal shown input) why
  arrivals-refused shown input split are error.Memory is = tt
  arrivals-refused shown input split are error.NoThread is = is
  arrivals-refused shown input split are (error.Refused refusal.BadHeader) is = (plan, body, split, are, is)
  arrivals-refused shown input split are (error.Refused (refusal.BadRow position)) is = (plan, body, split, are, is)
  arrivals-refused shown input split are (error.Refused (refusal.Load position why)) is = (plan, body, split, are, is)
  arrivals-refused shown input split are (error.Refused (refusal.Head why)) is = inr (plan, body, split, are, is)
  arrivals-refused shown input split are (error.Refused why) is = absurd is

-- the error of a head
pub head-refused : (shown : LoadView) (input : List ℕ) (why : CommandError) → IsError (IsHeadRefusal input) why → IsError (IsSimulateRefusal shown input) why
head-refused shown input error.Memory is = tt
head-refused shown input error.NoThread is = is
head-refused shown input (error.Refused refusal.NoBody) is = is
head-refused shown input (error.Refused (refusal.Head why)) is = inl is
head-refused shown input (error.Refused refusal.BadHeader) is = absurd is.3
head-refused shown input (error.Refused (refusal.BadRow position)) is = absurd is.3
head-refused shown input (error.Refused why) is = absurd is

-- a list of one item is that item
lone : (pools : List Sizes) (d : Sizes) → length pools ≡ 1 → pools ≡ get_or pools 0 d ∷ []
lone [] d one = absurd (cc one)
lone (pool ∷ []) d one = refl
lone (pool ∷ other ∷ pools) d one = absurd (cc one)

-- if the head names one pool, a load is carried out on one
one-pool : (plan : LoadPlan) (body : List ℕ) (arrivals : List Arrival) (own : Option PoolNumbers) (pools : List Sizes) → length plan.pools ≡ 1 → AreArrivals body plan arrivals own pools → length pools ≡ 1
one-pool plan body arrivals own pools one (inl are) = ap length are.5 ∙ length-map plan.pools _ ∙ one
one-pool plan body arrivals own pools one (inr are) = ap length are.2.6 ∙ length-map plan.pools _ ∙ one

-- what is read for a history is read for its one pool
pub read-one : (input : List ℕ) (plan : LoadPlan) (arrivals : List Arrival) (own : Option PoolNumbers) (pools : List Sizes) (d : Sizes) → IsRead load_view.History input plan arrivals own pools
    → IsRead load_view.History input plan arrivals own (get_or pools 0 d ∷ [])
read-one input plan arrivals own pools d read =
    (read.0, read.1, read.2, subst (AreArrivals read.0 plan arrivals own) (lone pools d (one-pool plan read.0 arrivals own pools read.2 read.3)) read.3)
