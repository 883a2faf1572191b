-- The parts of a run: its callers at the start, what its report says of its rows, and why it has none.
use Rattle.std.proofs.Common.{◌≡◌, ℕ, ◌+◌, ◌-◌, ◌<◌, List, [], map, length, get_or, refl, sym, ap, ◌∙◌, subst, arith}
use Rattle.std.specs.Prelude.{All, Result}
use Rattle.std.specs.List.{range_with_len}
use Rattle.std.proofs.Math.ListN.{get_or-map}
use Rattle.std.proofs.lemmas.List.{length-map, map-id, get_or_default}
use Rattle.std.proofs.lemmas.Simd.{map-map}
use Rattle.std.proofs.lemmas.List.Elements.{All-map}
use Rattle.std.proofs.lemmas.List.FromFn.{length-range_with_len, get_or-range_with_len}
use Rattle.std.proofs.lemmas.List.Sorted.{All-permutation, length_permutation}
use Rattle.resil_pool.specs.declared.receipt.Receipt.{Receipt}
use Rattle.resil_rule.specs.Limits.{Sizes}
use Rattle.resil_pool.specs.declared.hold.JobRow.{JobRow}
use Rattle.resil_pool.specs.declared.draining.report.Report.{Report as DrainReport}
use Rattle.resil_pool.specs.declared.draining.report.DrainFault.{DrainFault}
use Rattle.resil_pool.specs.Lock.Turn.{PoolId}
use Rattle.resil_pool.specs.Pool.{PoolView}
use Rattle.resil_pool.specs.Parts.{CallerView, EndView, new_caller, new_callers}
use Rattle.resil_pool.specs.Draining.Report.{AreNumbered, AreReceiptsOf, receipts_at}
use Rattle.resil_pool.specs.declared.draining.report.DrainFault.TheVariants.{PartMissing, Stranger, ReceiptsDiffer}
use Rattle.resil_pool.specs.Draining.{HasAllHandles, IsPartMissing, IsStranger, IsReceiptsDiffer, IsDrainError, Ended}
use Rattle.resil_workers.specs.Batch.Submit.{AreCallers, ArePlansOf, ReceiptsMatchRows, plans_of, plans_on_receipts}
use Rattle.resil_workers.specs.Batch.Run.{IsFinishedBatch, DrainedBatch, HasStranger}
use Rattle.resil_pool.proofs.JoinedCallers.{at_place}
use Rattle.resil_workers.proofs.RowLaws.{number_at}

pub length-new_callers : (source : PoolId) (count : ℕ) → length (new_callers source count) ≡ count
length-new_callers source count = length-map (range_with_len 1 count) (new_caller source) ∙ length-range_with_len 1 count

-- new callers are numbered, and have got no answer
pub are-new : (source : PoolId) (count : ℕ) → AreCallers source (new_callers source count)
are-new source count = record {
  sources = All-map (λ c. c.source ≡ source) (new_caller source) (range_with_len 1 count) (λ k d within. refl);
  numbered = map-map (λ (c : CallerView). c.number) (new_caller source) (range_with_len 1 count) ∙ (map-id (range_with_len 1 count) ∙ ap (range_with_len 1) (sym (length-new_callers source count)));
}

pub have-nothing : (source : PoolId) (count : ℕ) → All (λ c. c.receipts ≡ []) (new_callers source count)
have-nothing source count = All-map (λ c. c.receipts ≡ []) (new_caller source) (range_with_len 1 count) (λ k d within. refl)

-- each number is some caller's
pub are-numbered : (source : PoolId) (callers : List CallerView) (count : ℕ) → AreCallers source callers → length callers ≡ count → AreNumbered count callers
are-numbered source callers count are many = record {
  as_many = many;
  each = λ number low high.
      let within : number - 1 < length callers = omega arith in
      let x = at_place callers (number - 1) within in
      let place : (number - 1) + 1 ≡ number = omega arith in
      (number - 1, x.0, within, x.1, ap (λ (c : CallerView). c.number) (sym x.1) ∙ (number_at source callers (number - 1) x.0 are within ∙ place));
}

pub length-receipts : (callers : List CallerView) (receipts : List (List Receipt)) → AreReceiptsOf callers receipts → length receipts ≡ length callers
length-receipts callers receipts of = ap length of.handed_in ∙ (length-map of.in_order (λ c. c.receipts) ∙ length_permutation callers of.in_order of.same)

-- the answers to the callers about their rows are on the receipts that they handed in
pub are-plans : (rows : List JobRow) (callers : List CallerView) (receipts : List (List Receipt)) → ReceiptsMatchRows rows callers → AreReceiptsOf callers receipts → ArePlansOf rows receipts
are-plans rows callers receipts told of caller low high =
    let many : length receipts ≡ length of.in_order = ap length of.handed_in ∙ length-map of.in_order (λ c. c.receipts) in
    let within : caller - 1 < length of.in_order = omega arith in
    let inside : caller - 1 < length receipts = omega arith in
    let x = at_place of.in_order (caller - 1) within in
    let all : All (λ c. plans_on_receipts c ≡ plans_of rows c.number) of.in_order = All-permutation (λ c. plans_on_receipts c ≡ plans_of rows c.number) callers of.in_order of.same told in
    let own : plans_on_receipts x.0 ≡ plans_of rows x.0.number = subst (λ (c : CallerView). plans_on_receipts c ≡ plans_of rows c.number) x.1 (all (caller - 1) x.0 within) in
    let number : x.0.number ≡ caller = ap (λ (c : CallerView). c.number) (sym x.1) ∙ (sym (get_or-map (λ (c : CallerView). c.number) of.in_order (caller - 1) x.0)
    ∙ (ap (λ (ns : List ℕ). get_or ns (caller - 1) x.0.number) of.numbered ∙ (get_or-range_with_len 1 (length of.in_order) (caller - 1) x.0.number within ∙ omega arith))) in
    let here : receipts_at receipts caller ≡ x.0.receipts = get_or_default receipts (caller - 1) [] x.0.receipts inside
    ∙ (ap (λ (rs : List (List Receipt)). get_or rs (caller - 1) x.0.receipts) of.handed_in ∙ (get_or-map (λ (c : CallerView). c.receipts) of.in_order (caller - 1) x.0 ∙ ap (λ (c : CallerView). c.receipts) x.1)) in
    ap (map (λ r. r.plan)) here ∙ (own ∙ ap (plans_of rows) number)

-- a batch that is through has all the parts that a drain asks for
pub has-handles : (rows : List JobRow) (sizes : Sizes) (count : ℕ) (pool : PoolView) (callers : List CallerView) (ends : List EndView) → pool.source.limits ≡ sizes → pool.callers ≡ count
    → IsFinishedBatch rows pool.source count sizes.max callers ends → HasAllHandles pool callers ends
has-handles rows sizes count pool callers ends limits many is = record {
  numbered = subst (λ (n : ℕ). AreNumbered n callers) (sym many) (are-numbered _ _ _ is.callers is.number);
  as_many = is.ends ∙ sym (ap (λ (s : Sizes). s.max) limits);
}

-- a drain that had all parts and found the receipts right gives but one fault
pub only-stranger : (fault : DrainFault) → ¬ IsPartMissing fault → ¬ IsReceiptsDiffer fault → IsStranger fault
only-stranger Stranger there agree = tt
only-stranger ReceiptsDiffer there agree = absurd (agree tt)
only-stranger (PartMissing pool closer callers ends) there agree = absurd (there tt)

-- once it is drained, all its rows were submitted
pub was-drained : (rows : List JobRow) (sizes : Sizes) (count : ℕ) (pool : PoolView) (callers : List CallerView) (ends : List EndView) (answer : Result DrainReport DrainFault)
    → pool.source.limits ≡ sizes → IsFinishedBatch rows pool.source count sizes.max callers ends → Ended pool callers ends answer
    → DrainedBatch sizes count rows
was-drained rows sizes count pool callers ends answer limits is ended = record {
  machine = ended.machine;
  receipts = ended.receipts;
  ends = ends;
  all_accepted = ended.all_accepted;
  limits = ended.limits ∙ limits;
  closed = ended.closed;
  refused = ended.refused;
  number = length-receipts _ _ ended.handed_in ∙ is.number;
  submissions = ended.submissions;
  plans = are-plans _ _ _ is.told ended.handed_in;
  workers = is.ends;
}

pub has-stranger : (rows : List JobRow) (sizes : Sizes) (count : ℕ) (pool : PoolView) (callers : List CallerView) (ends : List EndView) (answer : Result DrainReport DrainFault)
    → pool.source.limits ≡ sizes → IsFinishedBatch rows pool.source count sizes.max callers ends → Ended pool callers ends answer
    → IsDrainError IsStranger answer → HasStranger sizes count rows
unfolding was-drained
has-stranger rows sizes count pool callers ends answer limits is ended told = record {
  batch = was-drained rows sizes count pool callers ends answer limits is ended;
  cause = ended.stranger.0 told;
}
