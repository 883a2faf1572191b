use Rattle.std.proofs.Common.{Ok}
use Rattle.toml.specs.View.{table_view}
use Rattle.resil_driver.proofs.HeadLaws.{IsRunHead, run-in-range}
use Rattle.resil_driver.proofs.run.head.read_head.Goals as goal

pub returns-clause-layers_in_range : goal.returns-clause-layers_in_range
returns-clause-layers_in_range c =
    let both : IsRunHead c.in_ok-parse_run.field-0 = run-in-range (Ok c.in_ok-parse_run.field-0) (table_view c.in_ok-table.table) c.in_ok-parse_run.ensures.answer in
    both.0

pub returns-clause-permits_in_range : goal.returns-clause-permits_in_range
returns-clause-permits_in_range c =
    let both : IsRunHead c.in_ok-parse_run.field-0 = run-in-range (Ok c.in_ok-parse_run.field-0) (table_view c.in_ok-table.table) c.in_ok-parse_run.ensures.answer in
    both.1
