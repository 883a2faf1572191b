use Rattle.std.proofs.Common.{◌≡◌, ◌<◌, ◌+◌, ◌∙◌, length, drop, sym, ap, refl, inl, inr, arith}
use Rattle.resil_rule.specs.Slots.{ids_out}
use Rattle.resil_rule.specs.declared.slots.Slot.{Slot}
use Rattle.resil_rule.proofs.RuleLaws.{pick-stays, take-follows, empty-of}
use Rattle.resil_rule.proofs.rule.Rule.pick.Goals as goal

pub returns-in-Some-clause-picked : goal.returns-in-Some-clause-picked
returns-in-Some-clause-picked g c =
    let front = sym c.pop_front.ensures.value ∙ c.in-Some.is in
    let slot : Slot = record { id = c.in-Some.id; place = c.put-place.result } in
    rw (← c.self.view_is, c.pop_front.ensures.items, c.put-place.ensures.put)
    (c.put-place.ensures.free, inl (refl, front, refl, pick-stays _ slot c.in-Some.work c.put-place.ensures.free front))

pub returns-clause-picked : goal.returns-clause-picked
returns-clause-picked g c =
    let none = empty-of c.self.inside.unpicked.items c.pop_front.result c.pop_front.ensures.value c.in_default.not-Some in
    let front = sym c.pop_front-2.ensures.value ∙ c.in_ok-id.was in
    let idle : length c.self.inside.unpicked.items + length (ids_out c.self.inside.out) < c.self.inside.workers = omega (arith, ap length none, c.len.ensures, c.if-len-self.false) in
    let same : drop 1 c.self.inside.unpicked.items ≡ c.self.inside.unpicked.items = ap (drop 1) none ∙ sym none in
    let slot : Slot = record { id = c.in_ok-id.id; place = c.put-place-2.result } in
    rw (← c.self.view_is, c.pop_front.ensures.items, same, c.pop_front-2.ensures.items, c.put-place-2.ensures.put)
    (c.put-place-2.ensures.free, inr (refl, none, front, refl, take-follows _ slot c.in_ok-id.work c.put-place-2.ensures.free front idle))
