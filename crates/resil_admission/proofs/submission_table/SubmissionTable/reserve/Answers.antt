use Rattle.std.proofs.Common.{◌≡◌, ◌<◌, ◌≤◌, ◌-◌, ◌++◌, ◌∷◌, ◌∙◌, ℕ, Bool, true, false, Result, List, [], Ok, Err, OnOk, map, set, length, replicate, take, is_ok, if◌then◌else◌, slice_index_or, sym, ap, arith}
use Rattle.std.proofs.lemmas.Grind.{common_steps}
use Rattle.std.specs.declared.alloc.AllocError.{AllocError}
use Rattle.std.specs.Prelude.{vec_len}
use Rattle.std.proofs.lemmas.List.{get_or-map, get_or-set_same, map-set, length-map}
use Rattle.resil_admission.specs.Words.{Id, Place}
use Rattle.resil_admission.specs.SubmissionTable.{index_before, no_place, row_at, place_at}
use Rattle.resil_admission.proofs.submission_table.SubmissionTable.reserve.Goals as goal

-- a row that is filled up says what it said
padded : (row : List Place) (n len : ℕ) (fits : Bool) → len ≡ length row → len ≤ n → (index : ℕ)
    → slice_index_or (if fits then take n row ++ replicate (n - len) no_place else row) index no_place ≡ slice_index_or row index no_place
padded row n len true is most index = grind (arith, common_steps)
padded row n len false is most index = grind (arith, common_steps)

replaced : (table : List (List Place)) (caller : ℕ) (row : List Place) → caller < length table → ((index : ℕ) → slice_index_or row index no_place ≡ slice_index_or (row_at table caller) index no_place)
    → (id : Id) → place_at (set table caller row) id ≡ place_at table id
replaced table caller row within same id = grind (arith, common_steps)

reaches : (outcome : Result (Unit {0}) AllocError) (number count old new : ℕ) → number ≤ count → new ≡ (if is_ok outcome then count else old) → OnOk outcome (number ≤ new)
reaches (Ok u) number count old new most is = omega arith
reaches (Err e) number count old new most is = tt

pub returns-clause-has : goal.returns-clause-has
returns-clause-has c =
    let rows = c.loop-self.self-inside.rows.items in
    let here : c.args.id.caller < length (map (λ row. row.items) rows) = omega (arith, length-map rows (λ row. row.items)) in
    let len = c.resize.ensures.len in
    rw (map-set, get_or-set_same) (reaches c.resize.result c.args.id.number c.max-count.result (vec_len c.index_mut-row.result.now) (length c.resize.new.self.items) (omega arith) (omega (arith, c.resize.new.self.ok) ∙ len))

pub returns-clause-same : goal.returns-clause-same
returns-clause-same c other =
    let rows = c.loop-self.self-inside.rows.items in
    let table = map (λ row. row.items) rows in
    let row = c.index_mut-row.result.now in
    let inside : c.args.id.caller < length rows = omega arith in
    let here : c.args.id.caller < length table = omega (arith, length-map rows (λ row. row.items)) in
    let same : row.items ≡ row_at table c.args.id.caller = ap (λ row. row.items) c.index_mut-row.ensures.value ∙ sym (get_or-map (λ row. row.items) rows c.args.id.caller row [] inside) in
    let kept : (index : ℕ) → slice_index_or c.resize.new.self.items index no_place ≡ slice_index_or (row_at table c.args.id.caller) index no_place = λ index.
    ap (λ row. slice_index_or row index no_place) (c.resize.ensures.items ∙ ap (λ place. if is_ok c.resize.result then take c.max-count.result row.items ++ replicate (c.max-count.result - vec_len row) place else row.items) c.none.ensures) ∙ padded row.items c.max-count.result (vec_len row) (is_ok c.resize.result) (omega (arith, row.ok)) (omega arith) index ∙ ap (λ row. slice_index_or row index no_place) same in
    rw (← c.self.view_is, map-set) (replaced table c.args.id.caller c.resize.new.self.items here kept other ∙ ap (λ row. index_before (slice_index_or (no_place ∷ row) other.number no_place).behind) (c.loop-self.invariant other.caller))
