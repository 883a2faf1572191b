use Rattle.std.proofs.Common.{◌≡◌, ◌<◌, ◌+◌, ◌∷◌, ◌∙◌, [], ℕ, List, Option, Some, None, drop, length, slice_get, slice_set, arith, length-set, sym}
use Rattle.resil_rule.specs.declared.event.Id.{Id}
use Rattle.resil_rule.specs.Slots.{AreFree, ids_out}
use Rattle.resil_rule.proofs.SlotLaws.{free-kept, put-length}
use Rattle.resil_rule.proofs.slots.Slots.put.Goals as goal

-- the first free place has a job, and the others are free
first-put : (id : Id) (places : List (Option Id)) (free : List ℕ) (place : ℕ) → AreFree places free → length free + length (ids_out places) ≡ length places → slice_get free 0 ≡ Some place
    → (slice_get places place ≡ Some None) × (length (drop 1 free) + length (ids_out (slice_set places place (Some id))) ≡ length (slice_set places place (Some id))) × AreFree (slice_set places place (Some id)) (drop 1 free)
first-put id places [] place are many first = absurd (cc first)
first-put id places (p ∷ free) place are many first =
    let here : p ≡ place = cc first in
    let is = rw here at are in
    (is.0, omega (arith, many, put-length id places place is.0, length-set places place (Some id)), free-kept (Some id) places place free is.1 is.2)

pub invariant_of-self : goal.invariant_of-self
invariant_of-self c =
    let first = first-put c.args.id c.self.inside.jobs.items c.self.inside.free.items c.unwrap-place.result c.self.invariant.2 c.self.invariant.0 (sym c.pop_front.ensures.value ∙ c.unwrap-place.ensures) in
    rw c.pop_front.ensures.items (first.1, c.self.invariant.1 ∙ sym (length-set c.self.inside.jobs.items c.unwrap-place.result (Some c.args.id)), first.2)
