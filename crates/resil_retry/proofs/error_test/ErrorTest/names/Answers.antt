use Rattle.resil_retry.proofs.KindLaws.{names-IsNamed}
use Rattle.resil_retry.proofs.error_test.ErrorTest.names.Goals as goal

pub returns-clause-rule : goal.returns-clause-rule
returns-clause-rule c = rw c.look_up.ensures (names-IsNamed c.args.self.now c.args.kind)
