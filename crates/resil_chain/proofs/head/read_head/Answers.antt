use Rattle.std.proofs.Common.{Ok}
use Rattle.toml.specs.View.{table_view}
use Rattle.resil_chain.proofs.HeadLaws.{chain-in-range}
use Rattle.resil_chain.proofs.head.read_head.Goals as goal

pub returns-clause-in_range : goal.returns-clause-in_range
returns-clause-in_range c = chain-in-range (Ok c.in_ok-chain_in.field-0) (table_view c.in_ok-table.table) c.in_ok-chain_in.ensures
