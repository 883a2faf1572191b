-- What holds of each round, and is kept by rounds in sequence, holds of all rounds together.
use Rattle.std.proofs.Common.{ℕ, zero, suc, sym, subst}
use Rattle.resil_lock.specs.Work.{AfterRounds}

module _ {A : Type 0} (HasGone Went : A → A → Type 0) (stays : (x : A) → Went x x) (both : (x y z : A) → Went x y → HasGone y z → Went x z) where
  pub after-rounds : (rounds : ℕ) (before after : A) → AfterRounds HasGone rounds before after → Went before after
  after-rounds zero before after same = subst (λ (x : A). Went before x) (sym same) (stays before)
  after-rounds (suc rounds) before after (between, made, last) = both before between after (after-rounds rounds before between made) last
