use Rattle.std.proofs.Common.{ap, ◌∙◌, arith, refl, rules}
use Rattle.resil_decor.proofs.PassesLaws.{source_at, AreSamePasses-set, IsAnswered-set, IsHeldAfter-set}
use Rattle.resil_decor.proofs.passes.PassesPermitter.enter.Goals as goal

pub enter-requires : goal.enter-requires
enter-requires g c =
    ap (λ pass. pass.source) c.index_mut.ensures.value
    ∙ source_at c.self.inside.passes.items c.self.inside.bulkheads.now c.from-index.result c.index_mut.result.now c.index-self-index.result (omega arith) c.self.invariant

pub invariant_of-self : goal.invariant_of-self
invariant_of-self g c =
    let same = AreSamePasses-set c.self.inside.passes.items c.from-index.result c.index_mut.result.now c.enter.new.pass c.index_mut.ensures.value (omega arith) c.enter.ensures.pass in
    same.sources ∙ c.self.invariant

pub returns : goal.returns
returns g c =
    let passes = c.self.inside.passes.items in
    let lent = c.index_mut.result.now in
    let tried = c.enter.ensures in
    let answered = IsAnswered-set passes c.from-index.result lent c.enter.new.pass c.index_mut.ensures.value (omega arith) tried.pass c.enter.result tried.tried in
    let held = IsHeldAfter-set passes c.from-index.result lent c.enter.new.pass c.index_mut.ensures.value (omega arith) tried.pass c.enter.result tried.held in
    rw (← c.self.view_is, ← c.from-index.ensures)
    (record {
      answered = search;
      held = search;
      given = record {
        same = AreSamePasses-set passes c.from-index.result lent c.enter.new.pass c.index_mut.ensures.value (omega arith) tried.pass;
        answered = (_, answered, refl);
      };
    })

pub returns-then-index-len-clause-answered : goal.returns-then-index-len-clause-answered
returns-then-index-len-clause-answered = search rules
