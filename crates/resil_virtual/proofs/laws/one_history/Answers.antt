use Rattle.resil_virtual.proofs.HistoryLaws.{one-history}
use Rattle.resil_virtual.proofs.laws.one_history.Goals as goal

pub returns : goal.returns
returns c = one-history
