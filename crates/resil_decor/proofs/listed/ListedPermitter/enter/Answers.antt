-- What the prover finds by itself, written down because edits that must fail open it.
use Rattle.std.proofs.Common.{rules, arith}
use Rattle.std.proofs.lemmas.Grind.{common_steps}
use Rattle.resil_decor.proofs.listed.ListedPermitter.enter.Goals as goal

pub returns-in_default-clause-next : goal.returns-in_default-clause-next
returns-in_default-clause-next c = search rules

pub returns-in_default-clause-answered : goal.returns-in_default-clause-answered
returns-in_default-clause-answered c = search rules

pub returns-in_default-clause-held : goal.returns-in_default-clause-held
returns-in_default-clause-held c = search rules

pub returns-in_default-clause-given : goal.returns-in_default-clause-given
returns-in_default-clause-given c = grind (arith, common_steps)
