use Rattle.std.proofs.Common.{◌<◌, length, ap, ◌∙◌}
use Rattle.resil_decor.proofs.PassesLaws.{source_at, AreSamePasses-set, answers_of-set, IsGivenBack-set, some_held, held_inside}
use Rattle.resil_decor.proofs.passes.Passes.leave.Goals as goal

pub leave-requires : goal.leave-requires
leave-requires g c =
    let some = rw (← c.self.view_is, ← c.from-index.ensures) at c.requires in
    let inside : c.from-index.result < length c.self.inside.passes.items = held_inside c.self.inside.passes.items c.from-index.result some in
    record {
      source = ap (λ pass. pass.source) c.index_mut.ensures.value
          ∙ source_at c.self.inside.passes.items c.self.inside.bulkheads.now c.from-index.result c.index_mut.result.now c.index-self-index.result inside c.self.invariant;
      held = some_held c.self.inside.passes.items c.from-index.result c.index_mut.result.now c.index_mut.ensures.value inside some;
    }

pub invariant_of-self : goal.invariant_of-self
invariant_of-self g c =
    let inside : c.from-index.result < length c.self.inside.passes.items = held_inside c.self.inside.passes.items c.from-index.result (rw (← c.self.view_is, ← c.from-index.ensures) at c.requires) in
    let same = AreSamePasses-set c.self.inside.passes.items c.from-index.result c.index_mut.result.now c.leave.new.pass c.index_mut.ensures.value inside c.leave.ensures.pass in
    same.sources ∙ c.self.invariant

pub returns : goal.returns
returns g c =
    let passes = c.self.inside.passes.items in
    let lent = c.index_mut.result.now in
    let left = c.leave.ensures in
    let inside : c.from-index.result < length passes = held_inside passes c.from-index.result (rw (← c.self.view_is, ← c.from-index.ensures) at c.requires) in
    rw (← c.self.view_is, ← c.from-index.ensures)
    (record {
      answered = answers_of-set passes c.from-index.result lent c.leave.new.pass (search) inside left.pass left.gave;
      held = IsGivenBack-set passes c.from-index.result lent c.leave.new.pass (search) inside left.pass left.held;
      given = AreSamePasses-set passes c.from-index.result lent c.leave.new.pass (search) inside left.pass;
    })
