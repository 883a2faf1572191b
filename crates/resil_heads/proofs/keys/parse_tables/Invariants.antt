use Rattle.std.proofs.Common.{◌≡◌, drop, map}
use Rattle.toml.specs.View.{table_view, view}
use Rattle.resil_heads.specs.Keys.{each, parse_table, parse_tables}
use Rattle.resil_heads.proofs.LayerLaws.{after}
use Rattle.resil_heads.proofs.keys.parse_tables.Given as goal

-- the tables so far, and those of the items left, are those of the value
abbrev pub invariant-loop-item : goal.invariant-loop-item
invariant-loop-item l =
    after (map (λ t. table_view t.now) l.tables.items) (each (λ v. parse_table (view v)) (drop l.item-index l.item-items)) ≡ parse_tables (view l.fn.value)
