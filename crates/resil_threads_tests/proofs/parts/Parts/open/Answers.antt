-- The callers and the workers of an opening are of its pool, which the `Arc` keeps.
use Rattle.std.proofs.Common.{◌≡◌, refl, ap}
use Rattle.std.specs.Arc.{arc_value}
use Rattle.std.specs.List.{range_with_len}
use Rattle.std.proofs.lemmas.List.Elements.{All-map, All-replicate}
use Rattle.resil_pool.specs.Pool.{PoolView}
use Rattle.resil_pool.specs.Parts.{CallerView, SeatView, new_caller, new_worker}
use Rattle.resil_threads_tests.proofs.parts.Parts.open.Goals as goal

pub invariant_of-result-clause-callers_of_pool : goal.invariant_of-result-clause-callers_of_pool
invariant_of-result-clause-callers_of_pool g c =
    let source = c.in_ok-pool.pool.source in
    let same : (arc_value c.in-Ok.pool).source ≡ source = ap (λ (p : PoolView). p.source) c.in-Ok.ensures.ok in
    rw (same, c.in_ok-pool.ensures.callers) (All-map (λ (caller : CallerView). caller.source ≡ source) (new_caller source) (range_with_len 1 c.args.callers) (λ k d within. refl))

pub invariant_of-result-clause-workers_of_pool : goal.invariant_of-result-clause-workers_of_pool
invariant_of-result-clause-workers_of_pool g c =
    let source = c.in_ok-pool.pool.source in
    let same : (arc_value c.in-Ok.pool).source ≡ source = ap (λ (p : PoolView). p.source) c.in-Ok.ensures.ok in
    rw (same, c.in_ok-pool.ensures.workers) (All-replicate (λ (worker : SeatView). worker.source ≡ source) _ (new_worker source) refl)
