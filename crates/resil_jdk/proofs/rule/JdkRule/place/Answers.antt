use Rattle.std.proofs.Common.{◌≡◌, ◌<◌, ◌∙◌, sym, arith}
use Rattle.resil_jdk.specs.declared.event.JdkReply.TheVariants.{Core, First, Extra}
use Rattle.resil_jdk.proofs.ReplyLaws.{says-next}
use Rattle.resil_jdk.proofs.StepLaws.{by_new, by_first, placed-core}
use Rattle.resil_jdk.proofs.rule.JdkRule.place.Goals as goal

pub run_by_new-requires : goal.run_by_new-requires
run_by_new-requires c = let below : c.args.self.now.workers < c.args.self.now.core = says-next c.args.self.now Core (sym c.in-Core.is ∙ c.requires.answer) in omega (arith, below, c.requires.sizes.1)

pub enqueue_first-requires : goal.enqueue_first-requires
enqueue_first-requires c = let none : c.args.self.now.workers ≡ 0 = says-next c.args.self.now First (sym c.in-First.is ∙ c.requires.answer) in omega (arith, none, c.requires.sizes.0)

pub run_by_new-requires-in-Extra : goal.run_by_new-requires-in-Extra
run_by_new-requires-in-Extra c = let below : c.args.self.now.workers < c.args.self.now.max = says-next c.args.self.now Extra (sym c.in-Extra.is ∙ c.requires.answer) in omega (arith, below, c.requires.sizes.2)

pub returns-in-Core-clause-placed : goal.returns-in-Core-clause-placed
returns-in-Core-clause-placed c = rw c.in-Core.is (by_new c.args.self.now c.args.id _ _ c.run_by_new.result (placed-core c.args.self.now c.args.id) c.run_by_new.ensures.placed c.run_by_new.ensures.runs)

pub returns-in-First-clause-placed : goal.returns-in-First-clause-placed
returns-in-First-clause-placed c = rw c.in-First.is (by_first c.args.self.now c.args.id _ c.enqueue_first.result c.enqueue_first.ensures.placed c.enqueue_first.ensures.waits)
