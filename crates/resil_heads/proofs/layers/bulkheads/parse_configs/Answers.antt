use Rattle.std.proofs.Common.{◌≡◌, arith}
use Rattle.std.proofs.lemmas.Grind.{common_steps}
use Rattle.resil_heads.proofs.BulkheadLaws.{configurations_init}
use Rattle.resil_heads.proofs.layers.bulkheads.parse_configs.Goals as goal

pub entries-init : goal.entries-init
entries-init c =
    let all : c.into_iter-name-iterator.result ≡ c.in-Some.table.now.entries = grind (arith, common_steps) in
    rw (all, c.in-Some.is) (configurations_init c.in-Some.table.now.entries c.new-said.result.items c.new-said.ensures.items)
