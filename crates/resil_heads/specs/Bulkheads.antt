-- What a text says of the bulkheads of a service.
use Rattle.std.specs.Prelude.{List, [], ◌∷◌, ℕ, Result, Ok, codes}
use Rattle.toml.specs.Data.{Members}
use Rattle.resil_registry.specs.Registry.{RegistryView, default_name}
use Rattle.resil_heads.specs.ByteOrder.{in_byte_order}
use Rattle.resil_heads.specs.Checks.{and_then}
use Rattle.resil_heads.specs.Document.{Keys, check_keys}
use Rattle.resil_heads.specs.LayerBulkheads.{parse_config, permits_in, configured, unconfigured}
use Rattle.resil_heads.specs.Keys.{each, parse_at, parse_required_at, parse_tables, parse_text, parse_wait}
use Rattle.resil_heads.specs.declared.bulkheads.BulkheadSpec.{BulkheadSpec}
use Rattle.resil_heads.specs.declared.error.HeadError.{HeadError}

-- the keys of a text; none is required
abbrev pub text_keys : Keys
text_keys = record { known = codes "permits" ∷ codes "bulkhead" ∷ []; required = [] }

-- the registry of a text without its bulkheads: `default` with 25 permits, and the configurations of the table `permits`
unfoldable pub parse_configurations : Members → Result (RegistryView ℕ) HeadError
parse_configurations text =
    and_then (permits_in text) (λ permits.
    and_then (each parse_config (in_byte_order permits)) (λ said.
    configured unconfigured said))

-- the tables of the bulkheads, in their order
abbrev pub bulkhead_tables : Members → Result (List Members) HeadError
bulkhead_tables text = parse_at parse_tables [] (codes "bulkhead") text

-- the keys of a bulkhead
abbrev pub bulkhead_keys : Keys
bulkhead_keys = record { known = codes "name" ∷ codes "config" ∷ codes "wait" ∷ []; required = codes "name" ∷ [] }

-- what the table of a bulkhead says: its name, its configuration, `default` if it names none, and the longest wait for a permit in
-- milliseconds, 0 if it says none
unfoldable pub parse_bulkhead_table : Members → Result BulkheadSpec HeadError
parse_bulkhead_table keys =
    and_then (check_keys bulkhead_keys keys) (λ _.
    and_then (parse_required_at parse_text (codes "name") keys) (λ name.
    and_then (parse_at parse_text default_name (codes "config") keys) (λ config.
    and_then (parse_at parse_wait 0 (codes "wait") keys) (λ wait.
    Ok (record { name = name; config = config; wait = wait })))))
