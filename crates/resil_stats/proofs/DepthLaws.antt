-- The sizes after a history, with one more event.
use Rattle.std.proofs.Common.{◌≡◌, ◌∙◌, ◌∷◌, [], ◌++◌, ℕ, List, refl, sym, ap}
use Rattle.std.proofs.lemmas.List.Elements.{filter_map-append}
use Rattle.resil_rule.specs.Limits.{Sizes}
use Rattle.resil_rule.specs.History.{last_size}
use Rattle.resil_jdk.specs.History.{core_size, max_size, new_core, new_max}
use Rattle.resil_jdk.specs.declared.event.JdkEvent.{JdkEvent}
use Rattle.resil_jdk.specs.declared.event.JdkEvent.TheVariants.{Resized}
use Rattle.resil_jdk.proofs.HistoryLaws.{last_size-both}
use Rattle.resil_stats.specs.Depth.{sizes_after}
use Rattle.std.specs.List.{filter_map}

-- two sizes are those after a history
abbrev pub AreSizesAfter : Sizes → List JdkEvent → ℕ × ℕ → Type 0
AreSizesAfter limits history sizes = (sizes.0 ≡ core_size limits history) × (sizes.1 ≡ max_size limits history)

core-after : (sizes : ℕ × ℕ) (e : JdkEvent) → (sizes_after sizes e).0 ≡ last_size sizes.0 (filter_map new_core (e ∷ []))
core-after sizes (Resized core max) = refl
core-after sizes e = refl

max-after : (sizes : ℕ × ℕ) (e : JdkEvent) → (sizes_after sizes e).1 ≡ last_size sizes.1 (filter_map new_max (e ∷ []))
max-after sizes (Resized core max) = refl
max-after sizes e = refl

pub sizes-more : (limits : Sizes) (h : List JdkEvent) (e : JdkEvent) (sizes next : ℕ × ℕ) → next ≡ sizes_after sizes e → AreSizesAfter limits h sizes → AreSizesAfter limits (h ++ e ∷ []) next
sizes-more limits h e sizes next is (core, max) = rw is (
  core-after sizes e ∙ ap (λ n. last_size n (filter_map new_core (e ∷ []))) core ∙ sym (last_size-both limits.core (filter_map new_core h) (filter_map new_core (e ∷ []))) ∙ ap (last_size limits.core) (sym (filter_map-append new_core h (e ∷ []))),
  max-after sizes e ∙ ap (λ n. last_size n (filter_map new_max (e ∷ []))) max ∙ sym (last_size-both limits.max (filter_map new_max h) (filter_map new_max (e ∷ []))) ∙ ap (last_size limits.max) (sym (filter_map-append new_max h (e ∷ []))),
)
