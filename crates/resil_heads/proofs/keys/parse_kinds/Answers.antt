use Rattle.resil_heads.specs.Keys.{parse_named}
use Rattle.toml.specs.View.{view}
use Rattle.resil_input.specs.OutcomeText.{parse_kind}
use Rattle.resil_heads.proofs.LayerLaws.{array-init}
use Rattle.resil_heads.proofs.keys.parse_kinds.Goals as goal

pub loop-item-init : goal.loop-item-init
loop-item-init c =
    array-init (parse_named parse_kind) c.as_slice-item-items.result.now c.in-Some.items.now.items (view c.args.value.now) c.new-kinds.result.items
    c.new-kinds.ensures.items c.as_slice-item-items.ensures.value c.in-Some.ensures
