use Rattle.resil_simulate.proofs.Words.{◌∙◌, ◌++◌, ◌∷◌, [], List, ap, map, sym, subst, take, All, map-append, take_more, All-push, Sizes, IsPoolRun}
use Rattle.resil_simulate.specs.declared.numbers.PoolNumbers.{PoolNumbers}
use Rattle.resil_simulate.proofs.command.run_pools.Goals as goal

pub loop-limits-preserved : goal.loop-limits-preserved
loop-limits-preserved g c =
    let was = c.loop-limits.invariant in
    let pools = c.args.pools.now in
    let i = c.loop-limits.limits-index in
    let one = c.limits-item.result in
    let next = take_more pools i one c.loop-limits-test.true ∙ ap (λ (sizes : Sizes). take i pools ++ sizes ∷ []) (sym c.limits-item.is) in
    let done = c.loop-limits.done.items in
    let Told : List (Sizes × PoolNumbers) → Type 0 = λ done. All (λ pool. IsPoolRun c.args.ways c.args.arrivals.now pool.0 pool.1) done in
    record {
      pools = ap (map (λ (pool : Sizes × PoolNumbers). pool.0)) c.in_ok-push.ensures.items ∙ map-append (λ (pool : Sizes × PoolNumbers). pool.0) done ((one, c.in_ok-numbers.numbers) ∷ []) ∙ ap (λ (all : List Sizes). all ++ one ∷ []) was.pools ∙ sym next;
      numbers = subst Told (sym c.in_ok-push.ensures.items) (All-push (λ pool. IsPoolRun c.args.ways c.args.arrivals.now pool.0 pool.1) done (one, c.in_ok-numbers.numbers) was.numbers c.in_ok-numbers.ensures);
    }
