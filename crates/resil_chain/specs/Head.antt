-- What the head of a `chain` says: the layers around a call, innermost first, or the one error that
-- refuses it.
use Rattle.std.specs.Prelude.{ℕ, List, [], ◌∷◌, Result, Ok, codes}
use Rattle.toml.specs.Data.{Members}
use Rattle.resil_decor.specs.declared.layer.Layer.{Layer}
use Rattle.resil_heads.specs.Checks.{and_then}
use Rattle.resil_heads.specs.Document.{Keys, document_of}
use Rattle.resil_heads.specs.declared.error.HeadError.{HeadError}
use Rattle.resil_heads.specs.Layers.{parse_chain, build_chain}

-- the keys of a head of `chain`. None is required
abbrev pub chain_keys : Keys
chain_keys = record { known = codes "permits" ∷ codes "layer" ∷ []; required = [] }

-- the layers of the chain that a table gives
unfoldable pub chain_in : Members → Result (List Layer) HeadError
chain_in head =
    and_then (parse_chain chain_keys head) (λ asked.
    and_then (build_chain asked) (λ built. Ok built.layers))

-- what the bytes of a head say: the layers of a chain, innermost first, or the first error
abbrev pub chain_head_of : List ℕ → Result (List Layer) HeadError
chain_head_of bytes = and_then (document_of bytes) chain_in
