-- What a table says of its layers and of the bulkheads that they name, and what is built of that.
use Rattle.std.specs.Prelude.{List, Result, Ok}
use Rattle.toml.specs.Data.{Members}
use Rattle.resil_heads.specs.LayerBulkheads.{parse_config, configured, permits_in, unconfigured}
use Rattle.resil_heads.specs.ByteOrder.{in_byte_order}
use Rattle.resil_heads.specs.Checks.{and_then}
use Rattle.resil_heads.specs.Document.{Keys}
use Rattle.resil_heads.specs.Keys.{each}
use Rattle.resil_heads.specs.LayerValues.{requested_layers}
use Rattle.resil_heads.specs.declared.layers.bulkheads.ConfigSpec.{ConfigSpec}
use Rattle.resil_heads.specs.declared.layers.values.LayerSpec.{LayerSpec}
use Rattle.resil_heads.specs.declared.error.HeadError.{HeadError}
use Rattle.resil_heads.specs.LayerBuild.{BuiltLayers, build_layers, chain_from_layers}

-- what a head asks for: configurations, and layers
pub record ChainSpecView : Type 0 where
  pub configurations : List ConfigSpec
  pub layers : List LayerSpec

-- What a table says of its chain, by its checks in their order: `permits` is a table; the checks of
-- its layers; and each configuration is a number of permits. The keys of the head are given.
unfoldable pub parse_chain : Keys → Members → Result ChainSpecView HeadError
parse_chain keys head =
    and_then (permits_in head) (λ permits.
    and_then (requested_layers keys head) (λ layers.
    and_then (each parse_config (in_byte_order permits)) (λ configurations.
    Ok (record { configurations = configurations; layers = layers }))))

-- what is built of it: the configurations in byte order of their names, then the layers, and then the chain
unfoldable pub build_chain : ChainSpecView → Result BuiltLayers HeadError
build_chain asked =
    and_then (configured unconfigured asked.configurations) (λ lists.
    and_then (build_layers lists asked.layers) (λ allowed.
    and_then (chain_from_layers allowed.layers) (λ layers.
    Ok (record { layers = layers; lists = allowed.lists }))))
