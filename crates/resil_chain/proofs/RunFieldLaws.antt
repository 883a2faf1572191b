-- The fields of a run: items with semicolons between them, and no field needs quotes.
use Rattle.std.proofs.Common.{◌≡◌, ◌∷◌, ◌++◌, ℕ, List, [], Bool, true, false, map, refl, sym, ap, append-nil}
use Rattle.std.specs.List.{flat_map}
use Rattle.std.specs.Fmt.{decimal}
use Rattle.resil_decor.specs.declared.permitter.Asked.{Asked}
use Rattle.resil_decor.specs.Run.{RunView}
use Rattle.resil_input.specs.CsvTable.{ArePlain, IsPlain}
use Rattle.resil_input.proofs.PlainLaws.{IsPlain-append, IsPlain-outcome_text, IsPlain_number}
use Rattle.resil_chain.specs.RunFields.{answer_letter, asked_item, items_text, run_fields}

-- the text of items; each but the first has a semicolon before it
pub items_text_flat : {X : Type 0} (text_of : X → List ℕ) (x : X) (xs : List X) → items_text (map text_of (x ∷ xs)) ≡ text_of x ++ flat_map (λ y. 59 ∷ text_of y) xs
items_text_flat text_of x [] = sym (append-nil (text_of x))
items_text_flat text_of x (y ∷ ys) = ap (λ (rest : List ℕ). text_of x ++ 59 ∷ rest) (items_text_flat text_of y ys)

IsPlain-items : {X : Type 0} (text_of : X → List ℕ) → ((x : X) → IsPlain (text_of x)) → (xs : List X) → IsPlain (items_text (map text_of xs))
IsPlain-items text_of plain [] = refl
IsPlain-items text_of plain (x ∷ []) = plain x
IsPlain-items text_of plain (x ∷ y ∷ ys) = IsPlain-append (text_of x) (59 ∷ items_text (map text_of (y ∷ ys))) (plain x) (IsPlain-items text_of plain (y ∷ ys))

IsPlain-letter : (granted : Bool) → IsPlain (answer_letter granted)
IsPlain-letter true = refl
IsPlain-letter false = refl

IsPlain-asked_item : (asked : Asked) → IsPlain (asked_item asked)
IsPlain-asked_item asked = IsPlain-append (decimal asked.id) (answer_letter asked.granted) (IsPlain_number asked.id) (IsPlain-letter asked.granted)

-- no field of a run needs quotes
pub ArePlain-run_fields : (run : RunView) → ArePlain (run_fields run)
ArePlain-run_fields run =
    let outcome = IsPlain-outcome_text run.outcome in
    let waits = IsPlain-items decimal IsPlain_number run.waits in
    let asked = IsPlain-items asked_item IsPlain-asked_item run.asked in
    rw (outcome, IsPlain_number run.calls, waits, asked) refl
