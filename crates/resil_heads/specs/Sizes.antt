-- The sizes of a pool at the keys of a table.
use Rattle.std.specs.Prelude.{ℕ, ◌&&◌, not, Bool, List, [], ◌∷◌, Result, Ok, Err, if◌then◌else◌, codes, nat_le}
use Rattle.toml.specs.Data.{Members}
use Rattle.resil_rule.specs.Limits.{Sizes, most_waiting, most_workers}
use Rattle.resil_rule.specs.declared.error.AdmitError.TheVariants as refused
use Rattle.resil_heads.specs.declared.error.HeadError.{HeadError}
use Rattle.resil_heads.specs.declared.error.HeadError.TheVariants as error
use Rattle.resil_heads.specs.Checks.{and_then}
use Rattle.resil_heads.specs.Keys.{parse_at, parse_count, parse_required_at}

-- the sizes at the keys of a table; the queue has room for 100 if it doesn't say
abbrev pub parse_sizes : Members → Result Sizes HeadError
parse_sizes head =
    and_then (parse_required_at parse_count (codes "core") head) (λ core.
    and_then (parse_required_at parse_count (codes "max") head) (λ max.
    and_then (parse_at parse_count 100 (codes "queue") head) (λ queue.
    Ok (record { core = core; max = max; queue = queue }))))

-- the keys that are required
abbrev pub required_sizes : List (List ℕ)
required_sizes = codes "core" ∷ codes "max" ∷ []

-- the number is from low to high
abbrev pub is_within : ℕ → ℕ → ℕ → Bool
is_within low high n = nat_le low n && nat_le n high

-- the sizes, if a pool takes them, or the error of the first that is out of its range
abbrev pub build_limits : Sizes → Result Sizes HeadError
build_limits sizes =
    if not (is_within 1 most_workers sizes.core) then Err (error.Limits refused.CoreOutOfRange)
    else if not (is_within sizes.core most_workers sizes.max) then Err (error.Limits refused.MaxOutOfRange)
    else if not (is_within 1 most_waiting sizes.queue) then Err (error.Limits refused.QueueOutOfRange)
    else Ok sizes

-- the sizes at the keys of a table, if a pool takes them
unfoldable pub parse_limits : Members → Result Sizes HeadError
parse_limits head = and_then (parse_sizes head) build_limits

-- the sizes, if a pool of the JDK takes them, or the same errors: a core size from 0 to 2^29 - 1, a maximum size from 1 and the core size
-- on, and a queue from 0 to 2^31 - 1
abbrev pub build_jdk_limits : Sizes → Result Sizes HeadError
build_jdk_limits sizes =
    if not (nat_le sizes.core 536870911) then Err (error.Limits refused.CoreOutOfRange)
    else if not (nat_le 1 sizes.max && is_within sizes.core 536870911 sizes.max) then Err (error.Limits refused.MaxOutOfRange)
    else if not (nat_le sizes.queue 2147483647) then Err (error.Limits refused.QueueOutOfRange)
    else Ok sizes

-- the sizes at the keys of a table, if a pool of the JDK takes them
unfoldable pub parse_jdk_limits : Members → Result Sizes HeadError
parse_jdk_limits head = and_then (parse_sizes head) build_jdk_limits
