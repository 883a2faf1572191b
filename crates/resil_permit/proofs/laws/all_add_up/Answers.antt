-- The law is a fact about the rule of the word.
use Rattle.resil_permit.proofs.Totals.{adds_up}
use Rattle.resil_permit.proofs.laws.all_add_up.Goals as goal

pub returns : goal.returns
returns c = adds_up
