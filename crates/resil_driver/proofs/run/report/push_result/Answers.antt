use Rattle.std.proofs.Common.{◌∙◌, [], ℕ, List, subst, sym}
use Rattle.resil_input.specs.CsvTable.{ArePlain}
use Rattle.resil_input.proofs.PlainLaws.{IsPlain_number}
use Rattle.resil_chain.proofs.RunFieldLaws.{ArePlain-run_fields}
use Rattle.resil_driver.proofs.ReportLaws.{texts-of_run}
use Rattle.resil_driver.proofs.run.report.push_result.Goals as goal

pub push-requires-clause-plain : goal.push-requires-clause-plain
push-requires-clause-plain c =
    let texts = texts-of_run c.fields.result (record { ref_ptr = (0, 0); now = [] }) c.args.row.now.run (c.fields.ensures ∙ c.in_ok-write.ensures) in
    let plain = subst (λ (fields : List (List ℕ)). ArePlain fields) (sym texts) (ArePlain-run_fields c.args.row.now.run) in
    rw (c.as_bytes-caller.ensures.value, c.format.ensures.text, c.as_bytes-number.ensures.value, c.format-2.ensures.text, IsPlain_number c.args.row.now.id.caller, IsPlain_number c.args.row.now.id.number) plain
