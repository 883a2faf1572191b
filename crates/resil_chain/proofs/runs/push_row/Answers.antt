use Rattle.std.proofs.Common.{◌∙◌}
use Rattle.std.proofs.lemmas.Result.{on_ok_weaker}
use Rattle.resil_chain.proofs.RunFieldLaws.{ArePlain-run_fields}
use Rattle.resil_chain.proofs.RunLaws.{IsTextOfRuns-more}
use Rattle.resil_chain.proofs.runs.push_row.Goals as goal

pub push-requires-clause-plain : goal.push-requires-clause-plain
push-requires-clause-plain c = rw (c.fields.ensures, c.in_ok-write.ensures) (ArePlain-run_fields c.in_ok-run.run')

pub returns-clause-text : goal.returns-clause-text
returns-clause-text c = on_ok_weaker c.push.result
    (λ more rows so_far. IsTextOfRuns-more c.args.chain.now rows c.args.row c.in_ok-run.run' _ _ _ c.in_ok-run.ensures (c.fields.ensures ∙ c.in_ok-write.ensures) more so_far)
    c.push.ensures.text
