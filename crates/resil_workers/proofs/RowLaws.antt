-- Rows that are submitted one after the other, and the answers that their callers have got.
use Rattle.std.proofs.Common.{◌≡◌, ◌≢◌, ℕ, ◌+◌, ◌<◌, ◌≤◌, Bool, true, false, cond, List, [], ◌∷◌, ◌++◌, map, length, get_or, take, sym, ap, ◌∙◌, subst, arith, eq-eqb, ne_eqb, append-nil}
use Rattle.std.specs.Prelude.{All, ◌==◌, filter}
use Rattle.std.specs.List.{range_with_len}
use Rattle.std.proofs.Math.ListN.{set, get_or-map}
use Rattle.std.proofs.lemmas.List.FromFn.{get_or-range_with_len}
use Rattle.std.proofs.Math.Seq.{map-set_same}
use Rattle.std.proofs.lemmas.List.{map-append, length-set, get_or-set_same, get_or-set_other, take_all, take_more}
use Rattle.std.proofs.lemmas.List.Elements.{All-set, filter-append}
use mathlib.Core.Logic.{dite}
use native.Mathlib.Decide.{ℕ_discrete}
use Rattle.resil_decor.specs.Plan.{PlanView}
use Rattle.resil_pool.specs.declared.hold.JobRow.{JobRow}
use Rattle.resil_pool.specs.Lock.Turn.{PoolId}
use Rattle.resil_pool.specs.Parts.{CallerView, IsSameCaller}
use Rattle.resil_workers.specs.Batch.Submit.{AreCallers, plans_of, plans_on_receipts}

plans_of-push : (rows : List JobRow) (row : JobRow) (caller : ℕ) (b : Bool) → (row.caller == caller) ≡ b → plans_of (rows ++ row ∷ []) caller ≡ plans_of rows caller ++ map (λ r. r.plan) (cond b (row ∷ []) [])
plans_of-push rows row caller b is =
    let own : JobRow → Bool = λ r. r.caller == caller in
    ap (map (λ r. r.plan)) (filter-append own rows (row ∷ []) ∙ ap (λ (b : Bool). filter own rows ++ cond b (row ∷ []) []) is) ∙ map-append (λ r. r.plan) (filter own rows) (cond b (row ∷ []) [])

-- a row of the caller comes after its others
pub plans_of-here : (rows : List JobRow) (row : JobRow) (caller : ℕ) → row.caller ≡ caller → plans_of (rows ++ row ∷ []) caller ≡ plans_of rows caller ++ row.plan ∷ []
plans_of-here rows row caller is = plans_of-push rows row caller true (eq-eqb row.caller caller is)

-- a row of another caller is none of its own
pub plans_of-else : (rows : List JobRow) (row : JobRow) (caller : ℕ) → row.caller ≢ caller → plans_of (rows ++ row ∷ []) caller ≡ plans_of rows caller
plans_of-else rows row caller apart = plans_of-push rows row caller false (ne_eqb row.caller caller apart) ∙ append-nil (plans_of rows caller)

-- a caller that is the same one is put back in its place
pub callers-set : (source : PoolId) (callers : List CallerView) (place : ℕ) (old new : CallerView) → AreCallers source callers → place < length callers → old ≡ get_or callers place old → IsSameCaller old new → AreCallers source (set callers place new)
callers-set source callers place old new are within here same = record {
  sources = All-set (λ c. c.source ≡ source) callers place new (same.source ∙ (ap (λ (c : CallerView). c.source) here ∙ are.sources place old within)) are.sources;
  numbered = map-set_same (λ c. c.number) callers place new old (same.number ∙ ap (λ (c : CallerView). c.number) here)
      ∙ (are.numbered ∙ ap (range_with_len 1) (sym (length-set callers place new)));
}

-- each caller has the answers to its rows among these
abbrev pub HaveToldOf : List JobRow → List CallerView → Type 0
HaveToldOf rows callers = (place : ℕ) (d : CallerView) → place < length callers → plans_on_receipts (get_or callers place d) ≡ plans_of rows (place + 1)

-- one more row was submitted
pub told-set : (rows : List JobRow) (i : ℕ) (row : JobRow) (callers : List CallerView) (at : ℕ) (old new : CallerView) → HaveToldOf (take i rows) callers → i < length rows → row ≡ get_or rows i row
    → at < length callers → row.caller ≡ at + 1 → old ≡ get_or callers at old → plans_on_receipts new ≡ plans_on_receipts old ++ row.plan ∷ [] → HaveToldOf (take (i + 1) rows) (set callers at new)
told-set rows i row callers at old new told within is inside from here more place d less =
    let front = take i rows in
    let parts : take (i + 1) rows ≡ front ++ row ∷ [] = take_more rows i row within ∙ ap (λ (r : JobRow). front ++ r ∷ []) (sym is) in
    let few : place < length callers = subst (λ (n : ℕ). place < n) (length-set callers at new) less in
    dite (ℕ_discrete place at)
    (λ same.
    let mine : get_or (set callers at new) place d ≡ new = ap (λ (p : ℕ). get_or (set callers at new) p d) same ∙ get_or-set_same callers at new d inside in
    let before : plans_on_receipts old ≡ plans_of front (at + 1) = ap plans_on_receipts here ∙ told at old inside in
    ap plans_on_receipts mine ∙ (more ∙ (ap (λ (ps : List PlanView). ps ++ row.plan ∷ []) before
    ∙ (sym (plans_of-here front row (at + 1) from) ∙ (ap (λ (rs : List JobRow). plans_of rs (at + 1)) (sym parts) ∙ ap (λ (p : ℕ). plans_of (take (i + 1) rows) (p + 1)) (sym same))))))
    (λ apart.
    let other : row.caller ≢ place + 1 = λ e. apart (omega arith) in
    ap plans_on_receipts (get_or-set_other callers at place new d apart) ∙ (told place d few
    ∙ (sym (plans_of-else front row (place + 1) other) ∙ ap (λ (rs : List JobRow). plans_of rs (place + 1)) (sym parts))))

-- a caller's number is its place, from 1
pub number_at : (source : PoolId) (callers : List CallerView) (place : ℕ) (d : CallerView) → AreCallers source callers → place < length callers → (get_or callers place d).number ≡ place + 1
number_at source callers place d are within =
    sym (get_or-map (λ (c : CallerView). c.number) callers place d) ∙ (ap (λ (ns : List ℕ). get_or ns place d.number) are.numbered
    ∙ (get_or-range_with_len 1 (length callers) place d.number within ∙ omega arith))

-- at the end each has the answers to its rows among all
pub all-told : (rows : List JobRow) (source : PoolId) (callers : List CallerView) (i : ℕ) → HaveToldOf (take i rows) callers → length rows ≤ i → AreCallers source callers → All (λ c. plans_on_receipts c ≡ plans_of rows c.number) callers
all-told rows source callers i told end are place d within =
    let whole : take i rows ≡ rows = take_all i rows end in
    let number = number_at source callers place d are within in
    told place d within ∙ (ap (λ (rs : List JobRow). plans_of rs (place + 1)) whole ∙ ap (plans_of rows) (sym number))
