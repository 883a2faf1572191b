use Rattle.std.proofs.Common.{◌+◌, ap, sym}
use Rattle.std.proofs.lemmas.List.{take_rest}
use Rattle.resil_stats.proofs.BarLaws.{drawn-quiet, drawn-start}
use Rattle.resil_stats.proofs.bars.bars_of.Goals as goal

pub loop-index-preserved-in_default : goal.loop-index-preserved-in_default
loop-index-preserved-in_default c = drawn-quiet c.args.events.now c.loop-index.index _ c.loop-index-test.true _ _ c.loop-index.invariant (sym c.in_default.ensures)

pub loop-index-preserved : goal.loop-index-preserved
loop-index-preserved c =
    let finish = simp take_rest at c.finish_in.ensures.finish in
    rw c.in_ok-begin.ensures.bars (drawn-start c.args.events.now c.loop-index.index _ c.loop-index-test.true _ _ c.loop-index.invariant c.requires.0 c.requires.1 _ _ (sym c.in-Some.ensures)
    c.begin.new.self.ends.items _ (ap (λ n. c.loop-index.index + 1 + 1 + n) finish) c.in_ok-begin.ensures.ends)
