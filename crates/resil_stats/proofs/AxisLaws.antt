-- The widest of the first steps of a list, with one more.
use Rattle.std.proofs.Common.{◌≡◌, ◌≤◌, ◌<◌, ◌⊎◌, ◌+◌, ◌*◌, ℕ, List, get_or, inl, inr, length, arith}
use Rattle.std.specs.List.{Contains}
use Rattle.std.proofs.lemmas.Grind.{common_steps}
use Rattle.std.proofs.lemmas.List.{get_or_default}
use Rattle.std.proofs.lemmas.List.Elements.{Contains-get_or}

module _ (steps : List ℕ) (long index widest new e : ℕ) (lt : index < length steps) (one : (new ≡ widest) ⊎ ((new ≡ get_or steps index e) × (4 * get_or steps index e ≤ long))) where
  pub known-more : (widest ≡ 1) ⊎ (Contains steps widest × (4 * widest ≤ long)) → (new ≡ 1) ⊎ (Contains steps new × (4 * new ≤ long))
  known-more was = elim one [ inl same ↦ rw same was | inr at ↦ inr (rw at.0 (Contains-get_or steps index e lt, at.1)) ]

  pub widest-more : ((i d : ℕ) → i < index → 4 * get_or steps i d ≤ long → get_or steps i d ≤ widest) → widest ≤ new → (4 * get_or steps index e ≤ long → get_or steps index e ≤ new)
      → (i d : ℕ) → i < index + 1 → 4 * get_or steps i d ≤ long → get_or steps i d ≤ new
  widest-more was kept fits i d less few = grind (arith, common_steps, was i d, get_or_default steps i d e)
