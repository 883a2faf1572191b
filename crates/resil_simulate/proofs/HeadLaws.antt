-- Laws of the pools of a load: they are limits, and how many there are.
use Rattle.resil_simulate.proofs.Words.{◌≡◌, ◌≤◌, ◌*◌, ℕ, true, List, All, filter, Contains, flat_map, length, arith, length-map, All-contains_itself, All-weaker, filter_passes, count_by-le-length, length-filter, sum_by-le, AreJdkLimits, Sizes, combinations, is_pool, with_maxes, with_queues}
use Rattle.std.proofs.lemmas.Bool.Decides.{nat_tests}
use Rattle.std.proofs.lemmas.List.Concat.{length-flat_map}

-- what is kept are limits
pub are_limits : (all : List Sizes) → All AreJdkLimits (filter is_pool all)
are_limits all =
    All-weaker (λ sizes. is_pool sizes ≡ true) AreJdkLimits (λ sizes pool. record { core = grind (arith, nat_tests, pool); max = grind (arith, nat_tests, pool); queue = grind (arith, nat_tests, pool) })
    (filter is_pool all) (filter_passes is_pool all)

-- of three lists of at most 8 there are at most 512 combinations
few-flat_map : {A B : Type 0} (f : A → List B) (n : ℕ) → ((x : A) → length (f x) ≤ n) → (xs : List A) → length (flat_map f xs) ≤ length xs * n
few-flat_map f n few xs = rw length-flat_map (sum_by-le (λ x. length (f x)) n xs (All-weaker (Contains xs) (λ x. length (f x) ≤ n) (λ x _. few x) xs (All-contains_itself xs)))

pub few_pools : (cores maxes queues : List ℕ) → length cores ≤ 8 → length maxes ≤ 8 → length queues ≤ 8 → length (filter is_pool (combinations cores maxes queues)) ≤ 512
few_pools cores maxes queues c m q =
    let kept : length (filter is_pool (combinations cores maxes queues)) ≤ length (combinations cores maxes queues) =
    rw length-filter (count_by-le-length is_pool (combinations cores maxes queues)) in
    let each : (core : ℕ) → length (with_maxes maxes queues core) ≤ 64 =
    λ core. let all = few-flat_map (with_queues queues core) 8 (λ max. rw length-map q) maxes in omega arith in
    let all : length (combinations cores maxes queues) ≤ length cores * 64 = few-flat_map (with_maxes maxes queues) 64 each cores in
    omega arith
