-- The greatest of a number over the prefixes of a history, with one more event, and the greatest loads.
use Rattle.std.proofs.Common.{◌≡◌, ◌+◌, ◌∷◌, [], ◌++◌, ◌∙◌, ◌⊎◌, inl, inr, ℕ, List, length, take, max, min, arith}
use Rattle.std.proofs.lemmas.Grind.{common_steps}
use Rattle.std.proofs.lemmas.List.{take-append-le, take_all, take_min}
use Rattle.std.proofs.lemmas.Bool.Decides.{leb_tells}
use Rattle.resil_jdk.specs.History.{running, waiting, workers}
use Rattle.resil_jdk.specs.declared.event.JdkEvent.{JdkEvent}
use Rattle.resil_stats.specs.Stats.{AreJdkMost, IsJdkLoadAfter, IsMost}
use Rattle.resil_stats.specs.declared.stats.Load.{Load}

-- a prefix of the events with one more is one of the events, or all of them
prefix-push : {E : Type 0} (k : ℕ) (h : List E) (e : E) → (take k (h ++ e ∷ []) ≡ take k h) ⊎ (take k (h ++ e ∷ []) ≡ h ++ e ∷ [])
prefix-push k h e = grind (arith, common_steps, take-append-le, take_all)

-- and each prefix of the events is one of the events with one more
prefix-kept : {E : Type 0} (k : ℕ) (h : List E) (e : E) → (n : ℕ) × (take n (h ++ e ∷ []) ≡ take k h)
prefix-kept k h e = (min k (length h), take-append-le (min k (length h)) h (e ∷ []) (omega arith) ∙ take_min k h)

module _ {E : Type 0} (number : List E → ℕ) where
  pub most-push : (h : List E) (e : E) (most now next : ℕ) → now ≡ number (h ++ e ∷ []) → next ≡ max most now → IsMost number h most → IsMost number (h ++ e ∷ []) next
  most-push h e most now next is raised old = record {
    bound = λ k. grind (arith, prefix-push k h e, old.bound k);
    reached = elim (leb_tells now most) [
      | inl le ↦ let kept = prefix-kept old.reached.0 h e in (kept.0, grind (arith, kept.1, old.reached.1))
      | inr lt ↦ (length h + 1, grind (arith, common_steps, take_all (length h + 1) (h ++ e ∷ [])))
    ];
  }

pub are-most_push : (h : List JdkEvent) (e : JdkEvent) (most now next : Load) → next.waiting ≡ max most.waiting now.waiting → next.running ≡ max most.running now.running → next.workers ≡ max most.workers now.workers
    → IsJdkLoadAfter (h ++ e ∷ []) now → AreJdkMost h most → AreJdkMost (h ++ e ∷ []) next
are-most_push h e most now next a b c load old = record {
  waiting = most-push (λ events. length (waiting events)) h e most.waiting now.waiting next.waiting load.waiting a old.waiting;
  running = most-push (λ events. length (running events)) h e most.running now.running next.running load.running b old.running;
  workers = most-push workers h e most.workers now.workers next.workers load.workers c old.workers;
}
