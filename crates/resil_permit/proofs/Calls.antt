-- What the steps of one call show together.
use Rattle.std.proofs.Common.{◌≡◌, ◌≢◌, ℕ, ◌+◌, ◌<◌, ◌≤◌, cond, Bool, List, [], ◌∷◌, length, sym, ap, ◌∙◌, subst, arith}
use Rattle.std.specs.Prelude.{count_by}
use Rattle.std.proofs.lemmas.List.Sums.{sum_by-append}
use Rattle.resil_permit.specs.declared.event.PermitEvent.{PermitEvent}
use Rattle.resil_permit.specs.declared.event.PermitEvent.TheVariants.{Took, Retired}
use Rattle.resil_permit.specs.History.{is_taking, is_giving, is_retiring, is_raising, events_of_seat, taken_count, retired_count, raised_count, let_go_count, holders, in_use_count, free_count}
use Rattle.resil_permit.specs.Knowledge.{SeesMore, SeesOwn}
use Rattle.resil_permit.specs.Steps.{PassSeat, AfterAcquireLoad, AfterAcquireExchange}
use Rattle.atomic_table.specs.Table.{Step}
use Rattle.resil_permit.specs.Passes.{Source, PassView}
use Rattle.resil_permit.specs.TryAcquire.{FreeChanged}
use Rattle.resil_permit.proofs.Histories.{copies_of_within}
use Rattle.resil_permit.proofs.Tallies.{tallied}
use Rattle.resil_permit.proofs.Log.Prefixes.{prefix_self, prefix_trans, prefix_length}
use Rattle.resil_permit.proofs.Log.Seats.{sees_more_trans, sees_own_trans}

-- a pass that came from these permits has a seat of their table
pub same_table : (p q : PassView) (s t : Source) → p ≡ q → q.source ≡ s → t ≡ s → p.source.table_id ≡ t.table_id
same_table p q s t seen from is = ap (λ (k : PassView). k.source.table_id) seen ∙ (ap (λ (u : Source). u.table_id) from ∙ sym (ap (λ (u : Source). u.table_id) is))

-- A load that found free permits, and the exchange after it. The pass keeps its number and its permits, so what it knows after both may be said in those that it had before.
module _ {first second : Step (Unit {0})} {m m' m'' : PassSeat} {free found : ℕ} (load : AfterAcquireLoad first m free m') (some : free ≢ 0) (exchange : AfterAcquireExchange second m' found m'') where
  -- where it was lost, they show a contended try
  pub lost : found ≢ second.first → SeesMore m.0.max m.0.number m.0.seen m''.0.seen × FreeChanged m.0.max m.0.seen m''.0.seen
  lost miss =
      let k = (load.loaded some).1 in
      let (l, other) = exchange.lost miss in
      let differ = subst (λ (y : ℕ). free_count y m'.0.seen ≢ free_count y m''.0.seen) load.same.max (λ e. other (sym e)) in (
        sees_more_trans k (rw (load.same.max, load.same.number) at l),
        (m'.0.seen, m''.0.seen, l.begins, prefix_self _, prefix_length _ _ k.begins, prefix_length _ _ (prefix_trans _ _ _ k.begins l.begins), differ),
      )

  -- where it won, they show that a permit was taken
  pub taken : found ≡ second.first → SeesOwn m.0.max m.0.number m.0.seen (Took m.0.number) (λ before. length (holders before) < in_use_count m.0.max before) m''.0.seen
  taken hit = sees_own_trans (load.loaded some).1 (rw (load.same.max, load.same.number) at (exchange.took hit))

-- a call's own event is the one more that its pass has of a kind
counts-more : (max number : ℕ) (seen new : List PermitEvent) (e : PermitEvent) (there : List PermitEvent → Type 0) → SeesOwn max number seen e there new → (kind : PermitEvent → Bool)
    → count_by kind (events_of_seat number new) ≡ count_by kind (events_of_seat number seen) + count_by kind (e ∷ [])
counts-more max number seen new e there a kind = ap (count_by kind) a.more_own ∙ sum_by-append (λ x. cond (kind x) 1 0) (events_of_seat number seen) (e ∷ [])

-- a pass that took one more holds no more than there are
pub room : (max number held : ℕ) (seen new : List PermitEvent) (there : List PermitEvent → Type 0) → SeesOwn max number seen (Took number) there new → held + let_go_count number seen ≡ taken_count number seen → held + 1 ≤ max
room max number held seen new there a is =
    let more = counts-more max number seen new (Took number) there a in
    let all = tallied max new a.legal in omega (arith, more is_taking, more is_giving, more is_retiring, copies_of_within number (holders new))

-- a pass that retired one more has retired no more than there are
pub fits_one_retired : (m m' : PassSeat) (retired : ℕ) (there : List PermitEvent → Type 0) → SeesOwn m.0.max m.0.number m.0.seen (Retired m.0.number) there m'.0.seen
    → retired + raised_count m.0.number m.0.seen ≡ retired_count m.0.number m.0.seen → retired + 1 ≤ m.0.max
fits_one_retired m m' retired there a is =
    let more = counts-more m.0.max m.0.number m.0.seen m'.0.seen (Retired m.0.number) there a in
    let all = tallied m.0.max m'.0.seen a.legal in omega (arith, more is_retiring, more is_raising, copies_of_within m.0.number all.0)
