use Rattle.std.proofs.Common.{◌≡◌, drop}
use Rattle.toml.specs.View.{view}
use Rattle.resil_heads.specs.Keys.{each, parse_kinds, parse_named}
use Rattle.resil_input.specs.OutcomeText.{parse_kind}
use Rattle.resil_heads.proofs.LayerLaws.{after}
use Rattle.resil_heads.proofs.keys.parse_kinds.Given as goal

-- the kinds so far, and those of the items that are left, are those of the value
abbrev pub invariant-loop-item : goal.invariant-loop-item
invariant-loop-item l =
    after l.kinds.items (each (λ v. parse_named parse_kind (view v)) (drop l.item-index l.item-items)) ≡ parse_kinds (view l.fn.value)
