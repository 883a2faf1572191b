use Rattle.resil_input.proofs.RowLaws.{rows-exclude_errors, errors-unique, rows-unique}
use Rattle.resil_input.proofs.csv_rows.readings_unique.Goals as goal

pub returns : goal.returns
returns g c = record { rows = rows-unique; fault = rows-exclude_errors; faults = errors-unique }
