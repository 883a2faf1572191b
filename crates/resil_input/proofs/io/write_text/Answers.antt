use Rattle.std.proofs.Common.{arith, rules}
use Rattle.std.proofs.lemmas.Grind.{common_steps}
use Rattle.resil_input.proofs.IoLaws.{write_more}
use Rattle.resil_input.proofs.io.write_text.Goals as goal

pub loop-written-preserved : goal.loop-written-preserved
loop-written-preserved g c = record {
  within = grind (arith, common_steps, c.in_ok-written.ensures.within);
  front = write_more _ _ _ _ _ _ c.loop-written.invariant.front c.in_ok-written.ensures.bytes;
  same = search rules;
}
