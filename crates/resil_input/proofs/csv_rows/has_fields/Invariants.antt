use Rattle.std.proofs.Common.{◌≡◌, map, take}
use Rattle.csv.specs.Records.{fields_of}
use Rattle.resil_input.proofs.csv_rows.has_fields.Given as goal

-- the fields so far are the names so far
abbrev pub invariant-loop-index : goal.invariant-loop-index
invariant-loop-index l = take l.index (fields_of l.fields) ≡ take l.index (map (λ name. name.now) l.names)
