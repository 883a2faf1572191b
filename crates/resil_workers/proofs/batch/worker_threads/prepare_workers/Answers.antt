-- One more worker has passes.
use Rattle.std.proofs.Common.{◌≡◌, ◌∙◌, List, subst}
use Rattle.std.specs.Prelude.{All}
use Rattle.std.proofs.lemmas.List.Elements.{All-head, All-tail}
use Rattle.resil_permit.specs.Passes.{PassView}
use Rattle.resil_decor.specs.Passes.{AreSplitFrom}
use Rattle.resil_workers.proofs.ThreadLaws.{all-pushed, one-more}
use Rattle.resil_workers.proofs.batch.worker_threads.prepare_workers.Goals as goal

pub loop-worker-preserved : goal.loop-worker-preserved
loop-worker-preserved g c =
    let at = c.loop-worker in
    let step = c.in-Some.ensures.steps in
    let all = subst (λ workers. All (λ w. w.source ≡ c.args.pool.now.source) workers) step.0 at.invariant.sources in record {
      each = one-more _ _ _ _ _ _ _ _ _ at.invariant.each step.0 step.1 c.push_reserved.ensures.items;
      room = c.push_reserved.ensures.capacity ∙ at.invariant.room;
      sources = All-tail (λ w. w.source ≡ c.args.pool.now.source) c.in-Some.worker _ all;
      given = all-pushed (λ one. one.worker.source ≡ c.args.pool.now.source) _ _ _ c.push_reserved.ensures.items at.invariant.given (All-head (λ w. w.source ≡ c.args.pool.now.source) c.in-Some.worker _ all);
      passes = c.in-Ok.ensures.old ∙ at.invariant.passes;
      split = all-pushed (λ one. AreSplitFrom c.args.passes.now one.passes) _ _ _ c.push_reserved.ensures.items at.invariant.split (subst (λ (passes : List PassView). AreSplitFrom passes c.in-Ok.passes) at.invariant.passes c.in-Ok.ensures.split);
    }
