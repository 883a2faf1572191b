use Rattle.std.proofs.Common.{rules}
use Rattle.resil_record.specs.Row.{parse_row}
use Rattle.resil_record.proofs.body.read_rows.Goals as goal

pub returns : goal.returns
returns c = c.read_rows.ensures parse_row (λ fields answer called wide. search rules)
