use Rattle.std.proofs.Common.{refl}
use Rattle.csv.specs.Records.{fields_of}
use Rattle.resil_input.proofs.FieldLaws.{field-or_empty}
use Rattle.resil_input.proofs.fields.field_at.Goals as goal

pub returns : goal.returns
returns c = rw c.unwrap_or.ensures (field-or_empty (fields_of c.args.fields.now) c.args.index c.get.result _ refl c.get.ensures.value)
