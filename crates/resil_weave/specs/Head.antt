-- What the head of a `weave` says: how many permits there are, or the one error that refuses it.
use Rattle.std.specs.Prelude.{ℕ, List, [], ◌∷◌, Result, Ok, Err, if◌then◌else◌, codes, nat_le}
use Rattle.toml.specs.Data.{Members}
use Rattle.resil_heads.specs.Document.{Keys, check_keys, document_of}
use Rattle.resil_heads.specs.Checks.{and_then}
use Rattle.resil_heads.specs.declared.error.HeadError.{HeadError}
use Rattle.resil_heads.specs.declared.error.HeadError.TheVariants as error
use Rattle.resil_heads.specs.Keys.{parse_at, parse_count}

-- the keys of the head. None is required
abbrev pub weave_keys : Keys
weave_keys = record { known = codes "permits" ∷ []; required = [] }

-- The permits that a table requests, by its checks in their order: unknown keys, and a value that
-- isn't a number. They are 25 if there is no key.
abbrev pub requested_permits : Members → Result ℕ HeadError
requested_permits head = and_then (check_keys weave_keys head) (λ _. parse_at parse_count 25 (codes "permits") head)

-- the permits, if a word can count them: at most 65,535
abbrev pub check_permits : ℕ → Result ℕ HeadError
check_permits permits = if nat_le permits 65535 then Ok permits else Err error.TooManyPermits

-- what the bytes of a head say: the permits, or the first error
abbrev pub weave_head_of : List ℕ → Result ℕ HeadError
weave_head_of bytes = and_then (and_then (document_of bytes) requested_permits) check_permits
