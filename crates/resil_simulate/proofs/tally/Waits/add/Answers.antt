use Rattle.std.proofs.Common.{not, rules}
use Rattle.std.proofs.lemmas.Fn.{filter_same}
use Rattle.resil_rule.specs.History.{is_same_id}
use Rattle.resil_simulate.proofs.tally.Waits.add.Goals as goal

pub returns-in-Remove-clause-queue : goal.returns-in-Remove-clause-queue
returns-in-Remove-clause-queue c = rw c.in-Remove.is (filter_same _ (λ job. not (is_same_id c.in-Remove.id job.id)) _ (λ x b f' k. search rules) _ _ c.retain.ensures.filtered)
