-- What becomes of passes if one of them acquires or releases a permit.
use Rattle.std.proofs.Common.{◌≡◌, ◌≢◌, ◌<◌, ◌+◌, ◌++◌, ◌∷◌, [], ◌∙◌, ℕ, Bool, true, false, List, length, map, Some, slice_get, take, inl, ⊎_elim, refl, add-one, sym, ap, arith, append-nil}
use Rattle.std.specs.List.{filter_map, slice_set, slice_index_or}
use Rattle.std.proofs.lemmas.Bool.{cases_eq}
use Rattle.std.proofs.lemmas.Grind.{common_steps}
use Rattle.std.proofs.lemmas.List.{get_or-map, get_or-set_same, get_or-set_other, length-map, length-set, set-get_or}
use Rattle.std.proofs.lemmas.List.Elements.{filter_map-append}
use Rattle.std.proofs.lemmas.Option.{gets, slice_get-get_or}
use Rattle.std.proofs.lemmas.Slice.Zip.{all_zipped_more}
use Rattle.std.proofs.Math.Seq.{map-set_same, take-suc}
use Rattle.resil_bulkhead.specs.PermitEvent.{PermitEvent}
use Rattle.resil_bulkhead.specs.PermitEvent.TheVariants.{Took, Gave, Refused}
use Rattle.resil_bulkhead.specs.History.{events_of_seat}
use Rattle.resil_bulkhead.specs.Passes.{PassView, own_events, held_by, IsSamePass, AppendsEvent}
use Rattle.resil_bulkhead.specs.TryAcquire.{IsTry, held_after}
use Rattle.resil_bulkhead.specs.Bulkhead.{BulkheadView, attempt_of}
use Rattle.resil_decor.specs.Permitter.{IsAnswered, IsHeldAfter, IsGivenBack, held_with}
use Rattle.resil_decor.specs.Passes.{answer_in, answers_in, answers_at, held_at, answers_of, held_of, sources_of, AreSamePasses, IsSplitFrom, AreSplitFrom}

-- passes of bulkheads are as many as these, and the pass at an index is of the bulkhead at that index
pub same_length : (passes : List PassView) (bulkheads : List BulkheadView) → sources_of passes ≡ map (λ b. b.permits) bulkheads → length passes ≡ length bulkheads
same_length passes bulkheads same = sym (length-map passes (λ pass. pass.source)) ∙ ap length same ∙ length-map bulkheads (λ b. b.permits)

pub source_at : (passes : List PassView) (bulkheads : List BulkheadView) (i : ℕ) (d : PassView) (e : BulkheadView) → i < length passes
    → sources_of passes ≡ map (λ b. b.permits) bulkheads → (slice_index_or passes i d).source ≡ (slice_index_or bulkheads i e).permits
source_at passes bulkheads i d e h same =
    sym (get_or-map (λ pass. pass.source) passes i d d.source h) ∙ ap (λ sources. slice_index_or sources i d.source) same
    ∙ get_or-map (λ b. b.permits) bulkheads i e d.source (omega (arith, h, same_length passes bulkheads same))

-- a pass put where another was
slice_get-set_same : (passes : List PassView) (i : ℕ) (q : PassView) → i < length passes → slice_get (slice_set passes i q) i ≡ Some q
slice_get-set_same passes i q inside = grind (arith, common_steps, gets, inside, get_or-set_same, length-set)

slice_get-set_other : (passes : List PassView) (i j : ℕ) (q : PassView) → j ≢ i → slice_get (slice_set passes i q) j ≡ slice_get passes j
slice_get-set_other passes i j q apart = grind (arith, common_steps, gets, apart, get_or-set_other, length-set)

-- own events, answer by answer
acted : (p q : PassView) (event : PermitEvent) (Before : List PermitEvent → Type 0) → IsSamePass p q → AppendsEvent p event Before q → answers_in q ≡ answers_in p ++ filter_map answer_in (event ∷ [])
acted p q event Before same done =
    let own : own_events q ≡ own_events p ++ event ∷ [] = ap (λ n. events_of_seat n q.seen) same.number ∙ done.more_own in
    ap (filter_map answer_in) own ∙ filter_map-append answer_in (own_events p) (event ∷ [])

acquired : (p q : PassView) (granted : Bool) → IsSamePass p q → IsTry p q (attempt_of granted) → answers_in q ≡ answers_in p ++ granted ∷ []
acquired p q true same tried = acted p q (Took p.number) _ same tried
acquired p q false same tried = acted p q (Refused p.number) _ same tried

released : (p q : PassView) → IsSamePass p q → AppendsEvent p (Gave p.number) (λ _. Unit {0}) q → answers_in q ≡ answers_in p
released p q same done = acted p q (Gave p.number) _ same done ∙ append-nil (answers_in p)

held_entry : (granted : Bool) (held : ℕ) → held_after held (attempt_of granted) ≡ held_with granted held
held_entry granted held = grind arith

module _ (passes : List PassView) (i : ℕ) (p q : PassView) (at : p ≡ slice_index_or passes i p) (inside : i < length passes) (same : IsSamePass p q) where
  -- the passes stay the same, and of the same permits
  pub AreSamePasses-set : AreSamePasses passes (slice_set passes i q)
  AreSamePasses-set = record {
    sources = map-set_same (λ pass. pass.source) passes i q p (same.source ∙ ap (λ pass. pass.source) at);
    numbers = map-set_same (λ pass. pass.number) passes i q p (same.number ∙ ap (λ pass. pass.number) at);
  }

  here : slice_get passes i ≡ Some p
  here = slice_get-get_or passes i p inside ∙ ap Some (sym at)

  -- the pass acquired a permit, or was rejected
  pub IsAnswered-set : (granted : Bool) → IsTry p q (attempt_of granted) → IsAnswered (answers_of passes) (record { id = i; granted = granted }) (answers_of (slice_set passes i q))
  IsAnswered-set granted tried = record {
    added = λ known. rw (slice_get-set_same passes i q inside, here) (acquired p q granted same tried);
    others = λ known id apart. ap answers_at (slice_get-set_other passes i id q apart);
    known = λ known. inl (length-set passes i q);
    unknown = λ past. absurd (omega (arith, past, inside));
  }

  pub IsHeldAfter-set : (granted : Bool) → held_by q ≡ held_after (held_by p) (attempt_of granted) → IsHeldAfter (held_of passes) (record { id = i; granted = granted }) (held_of (slice_set passes i q))
  IsHeldAfter-set granted held = record {
    counted = rw (slice_get-set_same passes i q inside, here) (held ∙ held_entry granted (held_by p));
    others = λ id apart. ap held_at (slice_get-set_other passes i id q apart);
  }

  -- the pass released a permit
  given-set : AppendsEvent p (Gave p.number) (λ _. Unit {0}) q → (id : ℕ) → answers_at (slice_get (slice_set passes i q) id) ≡ answers_at (slice_get passes id)
  given-set done id = ⊎_elim
      (λ (here_too : id ≡ i). rw (here_too, slice_get-set_same passes i q inside, here) (released p q same done))
      (λ apart. ap answers_at (slice_get-set_other passes i id q apart))
      (cases_eq id i)

  pub answers_of-set : AppendsEvent p (Gave p.number) (λ _. Unit {0}) q → answers_of (slice_set passes i q) ≡ answers_of passes
  answers_of-set done = λ j. record { known = length-set passes i q j; given = λ id. given-set done id j }

  pub IsGivenBack-set : held_by p ≡ held_by q + 1 → IsGivenBack (held_of passes) i (held_of (slice_set passes i q))
  IsGivenBack-set held = record {
    one_fewer = rw (slice_get-set_same passes i q inside, here) held;
    others = λ id apart. ap held_at (slice_get-set_other passes i id q apart);
  }

-- the pass of an id of which a permit is held
pub some_held : (passes : List PassView) (i : ℕ) (p : PassView) → p ≡ slice_index_or passes i p → i < length passes → 0 < held_of passes i → 0 < held_by p
some_held passes i p at inside h = rw (slice_get-get_or passes i p inside ∙ ap Some (sym at)) at h

-- an id of which a permit is held is known
pub held_inside : (passes : List PassView) (id : ℕ) → 0 < held_of passes id → id < length passes
held_inside passes id h = grind (arith, common_steps, gets, h)

-- a pass that is put back as it was changes nothing
pub put_back : (passes : List PassView) (i : ℕ) (p kept : PassView) → p ≡ slice_index_or passes i p → kept ≡ p → slice_set passes i kept ≡ passes
put_back passes i p kept at same = ap (slice_set passes i) (same ∙ at) ∙ set-get_or passes i p

-- one more of the passes is split
pub AreSplitFrom-more : (olds news : List PassView) (i : ℕ) (p q : PassView) → AreSplitFrom (take i olds) news
    → i < length olds → p ≡ slice_index_or olds i p → IsSplitFrom p q
    → AreSplitFrom (take (i + 1) olds) (news ++ q ∷ [])
AreSplitFrom-more olds news i p q so_far inside at split =
    rw (add-one, take-suc olds i p inside, ← at) (all_zipped_more IsSplitFrom (take i olds) news p q so_far split)

-- split passes have the same sources
pub sources_of-split : (olds news : List PassView) → AreSplitFrom olds news → sources_of news ≡ sources_of olds
sources_of-split [] [] h = refl
sources_of-split [] (n ∷ ns) h = absurd h
sources_of-split (o ∷ os) [] h = absurd h
sources_of-split (o ∷ os) (n ∷ ns) h = rw (h.0.source, sources_of-split os ns h.1) refl
