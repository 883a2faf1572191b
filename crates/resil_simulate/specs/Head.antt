-- What the head of a load says: the sizes of each pool that it is carried out on, how its workers end and wake, and how the jobs of a history are
-- taken; or the one error that refuses it.
use Rattle.std.specs.Prelude.{ℕ, ◌==◌, Bool, false, List, [], ◌∷◌, Option, Some, None, Result, Ok, Err, codes, filter, flat_map, if◌then◌else◌, is_ok, length, map, nat_le}
use Rattle.std.specs.List.{list_all}
use Rattle.std.specs.Option.{option_map_or}
use Rattle.toml.specs.Data.{Data, Members, as_array}
use Rattle.resil_rule.specs.Limits.{Sizes}
use Rattle.resil_rule.specs.declared.error.AdmitError.{AdmitError}
use Rattle.resil_rule.specs.declared.error.AdmitError.TheVariants as refused
use Rattle.resil_heads.specs.Checks.{and_then}
use Rattle.resil_heads.specs.Document.{Keys, check_keys, document_of}
use Rattle.resil_heads.specs.Keys.{each, items_listed, parse_at, parse_count, parse_flag, parse_named, parse_required_at, parse_wait}
use Rattle.resil_heads.specs.PoolHead.{parse_made}
use Rattle.resil_heads.specs.Sizes.{build_jdk_limits, is_within, required_sizes}
use Rattle.resil_heads.specs.declared.error.HeadError.{HeadError}
use Rattle.resil_heads.specs.declared.error.HeadError.TheVariants as error
use Rattle.resil_input.specs.TextEquality.{is_same}
use Rattle.resil_simulate.specs.declared.head.LoadHead.{LoadHead}
use Rattle.resil_simulate.specs.declared.head.Terms.{Terms}
use Rattle.resil_simulate.specs.declared.head.Ways.{Ways}
use Rattle.resil_simulate.specs.declared.head.Unfinished.{Unfinished}
use Rattle.resil_simulate.specs.declared.head.Unfinished.TheVariants.{Run, Takes}

-- the keys of the head
abbrev pub load_keys : Keys
load_keys = record {
  known =
      codes "core" ∷ codes "max" ∷ codes "queue" ∷ codes "idle_for" ∷ codes "wakes" ∷ codes "time_out" ∷ codes "takes" ∷ codes "unfinished" ∷ codes "made" ∷ codes "name" ∷ codes "record" ∷ codes "began" ∷ [];
  required = required_sizes;
}

-- the items of an array, or the one value that isn't an array
abbrev pub listed : Data → List Data
listed value = option_map_or items_listed (as_array value) (value ∷ [])

-- a number, or an array of 1 to 8 numbers
abbrev pub parse_counts : Data → Result (List ℕ) HeadError
parse_counts value = and_then (each parse_count (listed value)) (λ counts. if is_within 1 8 (length counts) then Ok counts else Err error.BadValue)

-- each of the sizes is from the least to the greatest, or else this is refused
abbrev pub check_each : ℕ → ℕ → AdmitError → List ℕ → Result (Unit {0}) HeadError
check_each least greatest why sizes = if list_all (is_within least greatest) sizes then Ok tt else Err (error.Limits why)

-- all combinations, with the queue varying fastest, then the maximum size
abbrev pub with_queues : List ℕ → ℕ → ℕ → List Sizes
with_queues queues core max = map (λ queue. record { core = core; max = max; queue = queue }) queues

abbrev pub with_maxes : List ℕ → List ℕ → ℕ → List Sizes
with_maxes maxes queues core = flat_map (with_queues queues core) maxes

abbrev pub combinations : List ℕ → List ℕ → List ℕ → List Sizes
combinations cores maxes queues = flat_map (with_maxes maxes queues) cores

-- sizes that a pool takes: each is in its range, and the core size at most the maximum size
abbrev pub is_pool : Sizes → Bool
is_pool sizes = is_ok (build_jdk_limits sizes)

-- the combinations that a pool takes, of sizes each of which is in its own range
abbrev pub pools_from : List ℕ → List ℕ → List ℕ → Result (List Sizes) HeadError
pools_from cores maxes queues =
    and_then (check_each 0 536870911 refused.CoreOutOfRange cores) (λ _.
    and_then (check_each 1 536870911 refused.MaxOutOfRange maxes) (λ _.
    and_then (check_each 0 2147483647 refused.QueueOutOfRange queues) (λ _.
    let pools : List Sizes = filter is_pool (combinations cores maxes queues) in
    if length pools == 0 then Err (error.Limits refused.MaxOutOfRange) else Ok pools)))

-- for how many microseconds a job without a finish runs, if the head says it
abbrev pub parse_takes : Members → Result (Option ℕ) HeadError
parse_takes head = parse_at (λ value. and_then (parse_count value) (λ us. Ok (Some us))) None (codes "takes") head

-- microseconds at a key, up to the most; the default if it is absent
abbrev pub micros_at : List ℕ → ℕ → ℕ → Members → Result ℕ HeadError
micros_at key default most head = and_then (parse_at parse_wait default key head) (λ us. if nat_le us most then Ok us else Err error.BadValue)

-- whether core workers may end too
abbrev pub parse_time_out : Members → Result Bool HeadError
parse_time_out head = parse_at parse_flag false (codes "time_out") head

-- how workers end and wake; an idle worker waits for at most 365 days
abbrev pub parse_ways : Members → Result Ways HeadError
parse_ways head =
    and_then (micros_at (codes "idle_for") 20000 31536000000000 head) (λ idle_for.
    and_then (micros_at (codes "wakes") 0 1000000 head) (λ wakes.
    and_then (parse_time_out head) (λ time_out. Ok (record { idle_for = idle_for; wakes = wakes; time_out = time_out }))))

-- how long a job runs that has a start and no finish
abbrev pub unfinished_named : List ℕ → Option Unfinished
unfinished_named name = if is_same name (codes "run") then Some Run else if is_same name (codes "takes") then Some Takes else None

abbrev pub parse_unfinished : Members → Result Unfinished HeadError
parse_unfinished head = parse_at (parse_named unfinished_named) Run (codes "unfinished") head

-- how the jobs of a history are taken; everything else that a recorder writes may be anything
abbrev pub parse_terms : Members → Result Terms HeadError
parse_terms head =
    and_then (parse_takes head) (λ takes.
    and_then (parse_unfinished head) (λ unfinished.
    and_then (parse_made head) (λ made. Ok (record { takes = takes; unfinished = unfinished; made = made }))))

-- what a head says: the pools, how their workers end and wake, and how the jobs of a history are taken
pub record LoadPlan : Type 0 where
  pub pools : List Sizes
  pub ways : Ways
  pub terms : Terms

-- the plan of a head that was read
abbrev pub plan_of : LoadHead → LoadPlan
plan_of head = record { pools = head.pools.items; ways = head.ways; terms = head.terms }

-- what the bytes of a head say, or the first error
unfoldable pub load_head_of : List ℕ → Result LoadPlan HeadError
load_head_of bytes =
    and_then (document_of bytes) (λ head.
    and_then (check_keys load_keys head) (λ _.
    and_then (parse_required_at parse_counts (codes "core") head) (λ cores.
    and_then (parse_required_at parse_counts (codes "max") head) (λ maxes.
    and_then (parse_at parse_counts (100 ∷ []) (codes "queue") head) (λ queues.
    and_then (parse_ways head) (λ ways.
    and_then (parse_terms head) (λ terms.
    and_then (pools_from cores maxes queues) (λ pools. Ok (record { pools = pools; ways = ways; terms = terms })))))))))
