-- The report of a machine whose history and results agree with the receipts: each accepted job is collected once.
use Rattle.std.proofs.Common.{◌≡◌, ◌<◌, ◌⊎◌, ⊎_elim, inr, ℕ, zero, suc, true, false, List, [], ◌∷◌, map, length, get_or, refl, sym, ap, ◌∙◌, arith}
use Rattle.std.specs.Prelude.{◌↔◌, All, Option, Some, None, IsSome}
use Rattle.std.proofs.lemmas.List.{get_or-map}
use Rattle.resil_pool.specs.Words.{IsValue, accepted, AreResultsOf, ids_of, Accepted, Event, Receipt, Row, RunView}
use Rattle.resil_pool.specs.Parts.{EndView, IsNoRun}
use Rattle.resil_pool.specs.Draining.{AreCollected, HasReceipt, HasRefused}

pub at_mapped : {A : Type 0} (f : A → List Receipt) (xs : List A) (place : ℕ) (x : A) → place < length xs → x ≡ get_or xs place x → get_or (map f xs) place [] ≡ f x
at_mapped f xs place x within is = get_or-map f xs place x [] within ∙ ap f (sym is)

-- the results of jobs, one by one
ids_same : (jobs : List Accepted) (rows : List Row) → AreResultsOf jobs rows → map (λ row. row.id) rows ≡ ids_of jobs
ids_same [] [] h = refl
ids_same (job ∷ jobs) (row ∷ rows) h = let rest = ids_same jobs rows h.1 in λ i. h.0.id i ∷ rest i
ids_same _ _ h = absurd h

values : (jobs : List Accepted) (rows : List Row) → AreResultsOf jobs rows → (k : ℕ) (d : Row) → k < length rows → IsValue (get_or rows k d).run
values [] [] h k d within = absurd (omega arith)
values (job ∷ jobs) (row ∷ rows) h zero d within = h.0.value
values (job ∷ jobs) (row ∷ rows) h (suc k) d within = values jobs rows h.1 k d (omega arith)
values _ _ h k d within = absurd h

pub collected : (history : List Event) (lists : List (List Receipt)) (jobs : List Accepted) (rows : List Row) → AreResultsOf jobs rows → ids_of jobs ≡ accepted history → All (HasReceipt lists) rows → AreCollected history lists rows
collected history lists jobs rows results ids told = record {
  once = ids_same jobs rows results ∙ ids;
  each = λ k d within. let r = told k d within in record { value = values jobs rows results k d within; receipt = r.numbered.receipt; there = r.numbered.there; number = r.numbered.number; plan = r.plan };
}

-- no end holds a refused run
unrefused : (run : Option RunView) → IsNoRun run → ¬ IsSome run
unrefused None none some = let is : false ≡ true = some in absurd (cc)
unrefused (Some run) none some = absurd none

pub none_held : (ends : List EndView) → ¬ HasRefused ends
none_held ends held = unrefused held.1.refused held.1.none held.4

-- the causes of each refusal, if no end holds a refused run
pub stranger_causes : (S D R : Type 0) → (S ↔ ¬ D) → ¬ R → S ↔ ((true ≡ false) ⊎ R ⊎ ¬ D)
stranger_causes S D R iff none = (
  λ s. inr (inr (iff.0 s)),
  λ causes. ⊎_elim (λ (no : true ≡ false). absurd (cc)) (λ (t : R ⊎ ¬ D). ⊎_elim (λ (r : R). absurd (none r)) (λ (undone : ¬ D). iff.1 undone) t) causes,
)

pub differ_causes : (X D W R : Type 0) → (X ↔ (D × W)) → ¬ R → X ↔ ((true ≡ true) × ¬ R × D × W)
differ_causes X D W R iff none = (λ x. let t = iff.0 x in (refl, none, t.0, t.1), λ t. iff.1 (t.2, t.3))
