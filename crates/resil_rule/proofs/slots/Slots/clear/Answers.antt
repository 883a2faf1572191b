use Rattle.std.proofs.Common.{◌≡◌, ◌<◌, ◌+◌, ◌∷◌, ◌∙◌, [], ℕ, List, Option, Some, None, length, slice_get, slice_set, arith, length-set, sym}
use Rattle.resil_rule.specs.declared.event.Id.{Id}
use Rattle.resil_rule.specs.Slots.{AreFree, ids_out}
use Rattle.resil_rule.proofs.SlotLaws.{free-more, clear-length}
use Rattle.resil_rule.proofs.slots.Slots.clear.Goals as goal

pub invariant_of-self : goal.invariant_of-self
invariant_of-self c =
    let there : slice_get c.self.inside.jobs.items c.args.slot.place ≡ Some (Some c.args.slot.id) = grind (arith, c.holds.ensures, c.if-not-holds.false, c.self.view_is) in
    let less = clear-length c.args.slot.id c.self.inside.jobs.items c.args.slot.place there in
    rw (rw c.unwrap.ensures at c.try_push_front.ensures.ok) (omega (arith, less, c.self.invariant.0, length-set c.self.inside.jobs.items c.args.slot.place None), c.self.invariant.1 ∙ sym (length-set c.self.inside.jobs.items c.args.slot.place None), free-more c.args.slot.id c.self.inside.jobs.items c.args.slot.place c.self.inside.free.items there c.self.invariant.2)
