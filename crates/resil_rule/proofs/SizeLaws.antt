-- The sizes after a history, with one more event.
use Rattle.std.proofs.Common.{◌≡◌, ◌∙◌, ◌∷◌, [], ◌++◌, ℕ, List, None, filter_map, refl, sym, ap}
use Rattle.resil_rule.specs.Limits.{Sizes}
use Rattle.resil_rule.specs.declared.event.Event.{Event}
use Rattle.resil_rule.specs.declared.event.Event.TheVariants.{Resized}
use Rattle.resil_rule.specs.History.{new_core, new_max, last_size}
use Rattle.resil_rule.specs.Numbers.{AreSizesOf}
use Rattle.resil_rule.proofs.UnpickedLaws.{filtered-same, filtered-more}

last_size-push : (other : ℕ) (sizes : List ℕ) (size : ℕ) → last_size other (sizes ++ size ∷ []) ≡ size
last_size-push other [] size = refl
last_size-push other (s ∷ sizes) size = last_size-push s sizes size

-- an event that sets no size
pub sizes-quiet : (limits : Sizes) (h : List Event) (e : Event) (core max : ℕ) → new_core e ≡ None → new_max e ≡ None → AreSizesOf limits h core max
    → AreSizesOf limits (h ++ e ∷ []) core max
sizes-quiet limits h e core max no_core no_max sizes = record {
  core_is = sizes.core_is ∙ sym (ap (last_size limits.core) (filtered-same new_core h e no_core));
  max_is = sizes.max_is ∙ sym (ap (last_size limits.max) (filtered-same new_max h e no_max));
}

-- a resize
pub sizes-resized : (limits : Sizes) (h : List Event) (core max : ℕ) → AreSizesOf limits (h ++ Resized core max ∷ []) core max
sizes-resized limits h core max = record {
  core_is = sym (ap (last_size limits.core) (filtered-more new_core h (Resized core max) core refl) ∙ last_size-push limits.core (filter_map new_core h) core);
  max_is = sym (ap (last_size limits.max) (filtered-more new_max h (Resized core max) max refl) ∙ last_size-push limits.max (filter_map new_max h) max);
}
