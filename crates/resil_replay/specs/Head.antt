-- What a pool's head says: its sizes, or the one error that refuses it.
use Rattle.std.specs.Prelude.{ℕ, List, [], ◌∷◌, Result, codes}
use Rattle.toml.specs.Data.{Members}
use Rattle.resil_rule.specs.Limits.{Sizes}
use Rattle.resil_heads.specs.declared.error.HeadError.{HeadError}
use Rattle.resil_heads.specs.Document.{Keys, check_keys, document_of}
use Rattle.resil_heads.specs.Sizes.{parse_sizes, required_sizes, build_limits}
use Rattle.resil_heads.specs.Checks.{and_then}

-- the keys of a pool's head
abbrev pub pool_keys : Keys
pool_keys = record { known = codes "core" ∷ codes "max" ∷ codes "queue" ∷ []; required = required_sizes }

-- The sizes that a table requests, by its checks in their order: unknown keys, required keys that
-- are missing, values that aren't numbers.
abbrev pub requested_sizes : Members → Result Sizes HeadError
requested_sizes head = and_then (check_keys pool_keys head) (λ _. parse_sizes head)

-- the sizes that the bytes of a pool's head request
abbrev pub requested_sizes_of : List ℕ → Result Sizes HeadError
requested_sizes_of bytes = and_then (document_of bytes) requested_sizes

-- what the bytes of a pool's head say: the sizes of a pool, or the first error
abbrev pub pool_head_of : List ℕ → Result Sizes HeadError
pool_head_of bytes = and_then (requested_sizes_of bytes) build_limits
