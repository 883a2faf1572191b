-- What the head of a `run` says: the sizes of a pool, its keep-alive, the bulkheads, and the layers
-- around each job, or the one error that refuses it.
use Rattle.std.specs.Prelude.{ℕ, List, [], ◌∷◌, Result, Ok, codes}
use Rattle.toml.specs.Data.{Members}
use Rattle.resil_rule.specs.Limits.{Sizes}
use Rattle.resil_decor.specs.declared.layer.Layer.{Layer}
use Rattle.resil_registry.specs.Registry.{RegistryView}
use Rattle.resil_heads.specs.Layers.{build_chain, parse_chain}
use Rattle.resil_heads.specs.Checks.{and_then}
use Rattle.resil_heads.specs.Document.{Keys, document_of}
use Rattle.resil_heads.specs.Sizes.{parse_limits, required_sizes}
use Rattle.resil_heads.specs.Keys.{parse_at, parse_count}
use Rattle.resil_heads.specs.declared.error.HeadError.{HeadError}

-- what a head says: the sizes of the pool, the keep-alive in empty polls in a row, the registry after
-- the last layer was built, and the layers, innermost first
pub record RunHeadView : Type 0 where
  pub limits : Sizes
  pub keep_alive : ℕ
  pub bulkheads : RegistryView ℕ
  pub layers : List Layer

-- the keys of the head; `core` and `max` are required
abbrev pub run_keys : Keys
run_keys = record {
  known = codes "core" ∷ codes "max" ∷ codes "queue" ∷ codes "keep_alive" ∷ codes "permits" ∷ codes "layer" ∷ [];
  required = required_sizes;
}

-- What a table says, by its checks in their order. The first line has all checks of keys, and the
-- values of the layers and of the configurations; the second has the keep-alive, 20 empty polls by
-- default. The third has the last values, the sizes, and then begins what is built: the limits of
-- these sizes, and in the fourth line the configurations, the layers in order and the chain.
unfoldable pub parse_run : Members → Result RunHeadView HeadError
parse_run head =
    and_then (parse_chain run_keys head) (λ asked.
    and_then (parse_at parse_count 20 (codes "keep_alive") head) (λ keep_alive.
    and_then (parse_limits head) (λ limits.
    and_then (build_chain asked) (λ built.
    Ok (record { limits = limits; keep_alive = keep_alive; bulkheads = built.lists; layers = built.layers })))))

-- what the bytes of a head say, or the first error
abbrev pub run_head_of : List ℕ → Result RunHeadView HeadError
run_head_of bytes = and_then (document_of bytes) parse_run
