use Rattle.std.proofs.Common.{◌≡◌, ◌∙◌, Option, Some, None, ℕ, IfSome, List, position, slice_get, sym, ap}
use Rattle.resil_rule.specs.Slots.{is_of}
use Rattle.resil_rule.specs.declared.event.Id.{Id}
use Rattle.resil_rule.proofs.SlotLaws.{found-there}
use Rattle.resil_rule.proofs.slots.Slots.find.Goals as goal

found : (id : Id) (places : List (Option Id)) (o : Option ℕ) → o ≡ position (is_of id) places → IfSome o (λ place. slice_get places place ≡ Some (Some id))
found id places None is = tt
found id places (Some place) is = found-there id places place (sym is)

pub returns-clause-found : goal.returns-clause-found
returns-clause-found c = found c.args.id c.args.self.now c.place_of.result (c.place_of.ensures ∙ ap (position (is_of c.args.id)) (c.deref.ensures.value ∙ c.self.view_is))
