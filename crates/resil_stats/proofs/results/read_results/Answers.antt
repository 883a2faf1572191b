use Rattle.std.proofs.Common.{ap, rules}
use Rattle.csv.specs.Records.{fields_of}
use Rattle.resil_input.proofs.FieldLaws.{fields-whole}
use Rattle.resil_stats.specs.Results.{parse_result}
use Rattle.resil_stats.proofs.results.read_results.Goals as goal

pub returns : goal.returns
returns c = c.read_rows.ensures parse_result (λ fields answer called wide. let whole = ap parse_result (fields-whole (fields_of fields.now) 6 wide) in search rules)
