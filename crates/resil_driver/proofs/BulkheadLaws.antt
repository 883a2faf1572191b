-- The instances of a registry, and the bulkheads that are made of them.
use Rattle.std.proofs.Common.{◌≡◌, ◌<◌, ◌≤◌, ◌∷◌, ◌++◌, ◌∙◌, ℕ, List, [], Option, Some, None, length, slice_get, refl, sym, ap, subst, arith, inl, inr}
use Rattle.std.specs.Prelude.{◌↔◌, IsSome, option_map}
use Rattle.std.proofs.lemmas.Bool.{cases_lt}
use Rattle.std.proofs.lemmas.List.{get_or-map, get_or_append_left, get_or_push, length-append, length-map}
use Rattle.std.proofs.lemmas.List.Elements.{All-get_or}
use Rattle.std.proofs.lemmas.Option.{option_and_then_some, slice_get-get_or, slice_get_past, get_or_from_slice_get, slice_get_within}
use Rattle.resil_input.proofs.OutcomeLaws.{option_map-some}
use Rattle.resil_bulkhead.specs.Bulkhead.{BulkheadView}
use Rattle.resil_bulkhead.specs.Name.{IsName}
use Rattle.resil_registry.specs.Entries.{names_of}
use Rattle.resil_registry.specs.Registry.{RegistryView, RegistryInvariant, instance_at}
use Rattle.resil_driver.specs.Run.Bulkheads.{AreMadeFrom, made_as}

-- the name of an instance is a good one
pub instance-named : (lists : RegistryView ℕ) (id : ℕ) (name : List ℕ) (permits : ℕ) → RegistryInvariant lists → Some (name, permits) ≡ instance_at lists id → IsName name
instance-named lists id name permits kept found =
    option_and_then_some (λ instance. option_map (λ config. (instance.0, config.1)) (slice_get lists.configurations instance.1)) (slice_get lists.instances id) (name, permits) (sym found) (λ instance at made.
    option_map-some (λ config. (instance.0, config.1)) (slice_get lists.configurations instance.1) (name, permits) made (λ value some same. (
    let within = slice_get_within lists.instances id instance at in
    let good = All-get_or IsName (names_of lists.instances) id [] (rw length-map within) kept.named in
    let own = get_or-map (λ (entry : List ℕ × ℕ). entry.0) lists.instances id instance [] within ∙ ap (λ (entry : List ℕ × ℕ). entry.0) (get_or_from_slice_get lists.instances id instance instance at) in
    subst IsName (own ∙ ap (λ (p : List ℕ × ℕ). p.0) same) good)))

-- no instance is left at a position if none is found
pub none-left : {X : Type 0} (found : Option X) (position count : ℕ) → found ≡ None → IsSome found ↔ (position < count) → count ≤ position
none-left None position count none here = elim (cases_lt position count) [ inl below ↦ cc (here.1 below) | inr past ↦ past ]
none-left (Some x) position count none here = cc none

module _ (lists : RegistryView ℕ) (bulkheads : List BulkheadView) where
  -- each id below the number of bulkheads has its own
  abbrev pub SoFar : Type 0
  SoFar = (id : ℕ) → id < length bulkheads → option_map made_as (slice_get bulkheads id) ≡ instance_at lists id

  -- one bulkhead more
  pub SoFar-more : (next : BulkheadView) (name : List ℕ) (permits : ℕ) → SoFar → Some (name, permits) ≡ instance_at lists (length bulkheads) → next.name ≡ name → next.permits.max ≡ permits
      → (id : ℕ) → id < length (bulkheads ++ next ∷ []) → option_map made_as (slice_get (bulkheads ++ next ∷ []) id) ≡ instance_at lists id
  SoFar-more next name permits so_far found named sized id within =
      elim (cases_lt id (length bulkheads)) [
        | inl before ↦
            ap (option_map made_as) (slice_get-get_or (bulkheads ++ next ∷ []) id next within ∙ ap Some (get_or_append_left bulkheads (next ∷ []) next id before) ∙ sym (slice_get-get_or bulkheads id next before))
            ∙ so_far id before
        | inr behind ↦
            let last : length bulkheads ≡ id = omega (arith, length-append bulkheads (next ∷ [])) in
            rw (slice_get-get_or (bulkheads ++ next ∷ []) id next within, get_or_push bulkheads next next id last) (rw (named, sized, ← last) found)
      ]

  -- if no instance is left, there is one for each
  pub AreMadeFrom-all : SoFar → length lists.instances ≤ length bulkheads → AreMadeFrom lists bulkheads
  AreMadeFrom-all so_far all id =
      elim (cases_lt id (length bulkheads)) [
        | inl here ↦ so_far id here
        | inr past ↦ rw (slice_get_past bulkheads id past, slice_get_past lists.instances id (omega (arith, past))) refl
      ]
