-- Records as their fields are written.
use Rattle.std.proofs.Common.{◌≡◌, ◌∷◌, [], ◌++◌, ℕ, List, append_assoc}
use Rattle.resil_input.specs.CsvTable.{record_text}

pub six_in_line : (a b c d e f : List ℕ) → a ++ 44 ∷ (b ++ 44 ∷ (c ++ 44 ∷ (d ++ 44 ∷ (e ++ 44 ∷ (f ++ 10 ∷ []))))) ≡ record_text (a ∷ b ∷ c ∷ d ∷ e ∷ f ∷ [])
six_in_line a b c d e f = simp append_assoc

pub three_in_line : (a b c : List ℕ) → a ++ 44 ∷ (b ++ 44 ∷ (c ++ 10 ∷ [])) ≡ record_text (a ∷ b ∷ c ∷ [])
three_in_line a b c = simp append_assoc
