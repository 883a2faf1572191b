use Rattle.std.proofs.Common.{◌∷◌, [], ◌++◌}
use Rattle.resil_stats.specs.Text.{callers_records, spans_records, total_records, verdict_fields, whole_records}
use Rattle.resil_stats.proofs.TextLaws.{at-end, joined}
use Rattle.resil_stats.proofs.text.push_numbers.Goals as goal

pub returns : goal.returns
returns c =
    let stats = c.args.stats.now in
    joined (total_records stats) (whole_records stats c.args.is_whole ++ (spans_records c.args.spans ++ (callers_records stats.callers.entries ++ verdict_fields stats.verdict ∷ []))) c.in_ok-push_totals.ensures
    (joined (whole_records stats c.args.is_whole) (spans_records c.args.spans ++ (callers_records stats.callers.entries ++ verdict_fields stats.verdict ∷ [])) c.in_ok-push_whole.ensures
    (joined (spans_records c.args.spans) (callers_records stats.callers.entries ++ verdict_fields stats.verdict ∷ []) c.in_ok-push_spans.ensures
    (at-end (callers_records stats.callers.entries) (verdict_fields stats.verdict) c.in_ok-push_callers.ensures c.in_ok-push_verdict.ensures)))
