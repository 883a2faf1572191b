use Rattle.std.proofs.Common.{ap, map}
use Rattle.toml.specs.View.{table_view, view}
use Rattle.resil_heads.specs.Keys.{parse_table}
use Rattle.resil_heads.proofs.LayerLaws.{array-init}
use Rattle.resil_heads.proofs.keys.parse_tables.Goals as goal

pub loop-item-init : goal.loop-item-init
loop-item-init c =
    array-init parse_table c.as_slice-item-items.result.now c.in-Some.items.now.items (view c.args.value.now) _
    (ap (map (λ t. table_view t.now)) c.new-tables.ensures.items) c.as_slice-item-items.ensures.value c.in-Some.ensures
