use Rattle.std.proofs.Common.{◌≡◌, string_bytes}
use Rattle.std.specs.Option.{option_map_or}
use Rattle.toml.specs.Data.{no_members}
use Rattle.toml.specs.View.{table_view, view}
use Rattle.toml.proofs.Views.{Entry}
use Rattle.resil_heads.specs.ByteOrder.{in_byte_order}
use Rattle.resil_heads.specs.LayerBulkheads.{parse_config}
use Rattle.resil_heads.specs.Keys.{each}
use Rattle.resil_heads.proofs.LayerLaws.{after}
use Rattle.resil_heads.proofs.layers.bulkheads.parse_configs.Given as goal

-- the configurations so far, and those of the entries left, are those of the table
abbrev pub invariant-entries : goal.invariant-entries
invariant-entries l =
    after l.said.items (each (λ (e : Entry). parse_config (string_bytes e.0, view e.1)) l.name-iterator)
    ≡ each parse_config (in_byte_order (option_map_or (λ table. table_view table.now) l.permits no_members))
