-- The records of woven steps, one after the other.
use Rattle.std.proofs.Common.{Bor, ◌≡◌, ◌∷◌, ◌++◌, ◌∙◌, ℕ, suc, List, [], length, map, min, refl, sym, ap, arith}
use Rattle.std.proofs.lemmas.List.{length-map, map_push}
use Rattle.std.proofs.lemmas.Slice.Zip.{length-zip}
use Rattle.std.specs.List.{zip}
use Rattle.resil_permit.specs.declared.step.Step.{Step}
use Rattle.resil_permit.specs.declared.step.Shown.{Shown}
use Rattle.resil_permit.specs.WordMachine.{Machine, after_step, all_shown}
use Rattle.resil_input.specs.CsvTable.{record_text, table_text}
use Rattle.resil_input.proofs.TableLaws.{table_text-more}
use Rattle.resil_weave.specs.Woven.{step_fields, step_records, woven_text_header, word_fields, woven_text, EachStepHasRecord}

-- Each step shows one thing.
pub length-all_shown : (m : Machine) (steps : List Step) → length (all_shown m steps) ≡ length steps
length-all_shown m [] = refl
length-all_shown m (step ∷ steps) = ap suc (length-all_shown (after_step m step) steps)

-- what two iterators give together
abbrev pub pair_of : Bor Step × Bor Shown → Step × Shown
pair_of p = (p.0.now, p.1.now)

-- the fields of a step with what it showed
abbrev pub fields_of_pair : Step × Shown → List (List ℕ)
fields_of_pair p = step_fields p.0 p.1

step_records-length : (steps : List Step) (shown : List Shown) → length (step_records steps shown) ≡ min (length steps) (length shown)
step_records-length steps shown = length-map (zip steps shown) fields_of_pair ∙ length-zip steps shown

pub each-step_has_record : EachStepHasRecord
each-step_has_record m steps = omega (arith, step_records-length steps (all_shown m steps), length-all_shown m steps)

-- the text so far, with one more step
pub step_text-more : (pairs : List (Step × Shown)) (step : Step) (s : Shown) (before after : List ℕ) → before ≡ table_text (woven_text_header ∷ map fields_of_pair pairs)
    → after ≡ before ++ record_text (step_fields step s) → after ≡ table_text (woven_text_header ∷ map fields_of_pair (pairs ++ (step, s) ∷ []))
step_text-more pairs step s before after old new =
    new ∙ ap (λ l. l ++ record_text (step_fields step s)) old ∙ sym (table_text-more (woven_text_header ∷ map fields_of_pair pairs) (step_fields step s))
    ∙ ap (λ l. table_text (woven_text_header ∷ l)) (sym (map_push fields_of_pair pairs (step, s)))

-- the whole text: all steps, and the word
pub woven_text-end : (steps : List Step) (shown : List Shown) (word : ℕ) (pairs : List (Step × Shown)) (before after : List ℕ) → pairs ≡ zip steps shown
    → before ≡ table_text (woven_text_header ∷ map fields_of_pair pairs) → after ≡ before ++ record_text (word_fields word) → after ≡ woven_text steps shown word
woven_text-end steps shown word pairs before after all old new =
    new ∙ ap (λ l. l ++ record_text (word_fields word)) (old ∙ ap (λ l. table_text (woven_text_header ∷ map fields_of_pair l)) all)
    ∙ sym (table_text-more (woven_text_header ∷ step_records steps shown) (word_fields word))
