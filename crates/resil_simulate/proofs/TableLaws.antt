-- The record of a pool, as its fields are written.
use Rattle.std.proofs.Common.{◌≡◌, ◌∷◌, [], ◌++◌, ℕ, List, Option, None, Some, append_assoc}
use Rattle.resil_input.specs.CsvTable.{record_text}
use Rattle.resil_rule.specs.Limits.{Sizes}
use Rattle.resil_simulate.specs.Table.{size_fields, size_text}

pub in_line : (sizes : Option Sizes) (d e f g h i j k : List ℕ)
    → (size_text sizes ++ 44 ∷ (d ++ 44 ∷ (e ++ 44 ∷ (f ++ 44 ∷ (g ++ 44 ∷ (h ++ 44 ∷ [])))))) ++ (i ++ 44 ∷ (j ++ 44 ∷ (k ++ 10 ∷ [])))
    ≡ record_text (size_fields sizes ++ d ∷ e ∷ f ∷ g ∷ h ∷ i ∷ j ∷ k ∷ [])
in_line None d e f g h i j k = simp append_assoc
in_line (Some sizes) d e f g h i j k = simp append_assoc
