use Rattle.resil_weave.proofs.WovenLaws.{each-step_has_record}
use Rattle.resil_weave.proofs.woven.each_step_has_record.Goals as goal

pub returns : goal.returns
returns c = each-step_has_record
