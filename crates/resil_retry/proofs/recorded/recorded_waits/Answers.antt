-- The law is a fact about what is recorded.
use Rattle.resil_retry.proofs.RecordedLaws.{recorded_one_by_one, all_recorded}
use Rattle.resil_retry.proofs.recorded.recorded_waits.Goals as goal

pub returns-clause-one_by_one : goal.returns-clause-one_by_one
returns-clause-one_by_one c = recorded_one_by_one

pub returns-clause-all : goal.returns-clause-all
returns-clause-all c = all_recorded
