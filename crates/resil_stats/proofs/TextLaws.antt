-- A text to which records are added.
use Rattle.std.proofs.Common.{◌≡◌, ◌∷◌, [], ◌++◌, ◌∙◌, ℕ, List, sym, ap, append_assoc, arith, append-nil}
use Rattle.std.proofs.lemmas.Grind.{common_steps}
use Rattle.std.proofs.lemmas.List.Concat.{flat_map-append}
use Rattle.resil_input.specs.CsvTable.{record_text, table_text}
use Rattle.resil_stats.specs.Text.{IsExtended, caller_records, callers_records}
use Rattle.resil_stats.specs.declared.stats.CallerStats.{CallerStats}

-- a text with two parts more
pub after : {s t u a b : List ℕ} → IsExtended s t a → IsExtended t u b → IsExtended s u (a ++ b)
after {s} {t} {u} {a} {b} first next = record { is = next.is ∙ ap (λ (l : List ℕ). l ++ b) first.is ∙ append_assoc s a b }

-- a table of one record, and one with a record more at its end
pub alone : {s t : List ℕ} (r : List (List ℕ)) → IsExtended s t (record_text r) → IsExtended s t (table_text (r ∷ []))
alone {s} r own = record { is = own.is ∙ ap (λ (l : List ℕ). s ++ l) (sym (append-nil (record_text r))) }

pub at-end : {s t u : List ℕ} (rs : List (List (List ℕ))) (r : List (List ℕ)) → IsExtended s t (table_text rs) → IsExtended t u (record_text r) → IsExtended s u (table_text (rs ++ r ∷ []))
at-end {s} rs r first next = record { is = (after first (alone r next)).is ∙ ap (λ (l : List ℕ). s ++ l) (sym (flat_map-append record_text rs (r ∷ []))) }

-- a table after another one
pub joined : {s t u : List ℕ} (a b : List (List (List ℕ))) → IsExtended s t (table_text a) → IsExtended t u (table_text b) → IsExtended s u (table_text (a ++ b))
joined {s} a b first next = record { is = (after first next).is ∙ ap (λ (l : List ℕ). s ++ l) (sym (flat_map-append record_text a b)) }

-- a text with the records of one more caller
pub caller-pushed : (old new whole : List ℕ) (entry : ℕ × CallerStats) (left after : List (ℕ × CallerStats)) → left ≡ entry ∷ after
    → IsExtended old new (table_text (caller_records entry)) → old ++ table_text (callers_records left) ≡ whole → new ++ table_text (callers_records after) ≡ whole
caller-pushed old new whole entry left after is more was = grind (arith, common_steps, more.is, flat_map-append record_text (caller_records entry) (callers_records after))
