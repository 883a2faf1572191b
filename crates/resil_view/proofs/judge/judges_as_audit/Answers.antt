use Rattle.resil_view.proofs.AuditLaws.{judges-as_audit}
use Rattle.resil_view.proofs.judge.judges_as_audit.Goals as goal

pub returns : goal.returns
returns c = judges-as_audit
