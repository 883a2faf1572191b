-- One more worker is back.
use Rattle.std.proofs.Common.{rules, ◌≡◌, ◌∙◌, sym, subst}
use Rattle.std.proofs.lemmas.List.Elements.{All-head, All-tail, All-push, All-same}
use Rattle.resil_executor.specs.Seats.{HasLeft}
use Rattle.resil_executor.proofs.threads.join_workers.Goals as goal

pub loop-thread-preserved : goal.loop-thread-preserved
loop-thread-preserved g c =
    let at = c.loop-thread in
    let all = All-same (λ t. t.promise.pool.now ≡ c.args._pool.now) _ _ (sym c.in-Some.ensures.steps.0) at.invariant.promised in
    let is = All-head (λ t. t.promise.pool.now ≡ c.args._pool.now) c.in-Some.thread _ all in
    let back = subst (λ pool. HasLeft pool g.W.ThreadWork.WasRunThere c.join.result.seat) is c.join.ensures in record {
      count = search rules;
      left = search rules;
      room = c.push_reserved.ensures.capacity ∙ at.invariant.room;
      promised = All-tail (λ t. t.promise.pool.now ≡ c.args._pool.now) c.in-Some.thread _ all;
      each = All-same (λ worker. HasLeft c.args._pool.now g.W.ThreadWork.WasRunThere worker.seat) _ _ c.push_reserved.ensures.items (All-push (λ worker. HasLeft c.args._pool.now g.W.ThreadWork.WasRunThere worker.seat) _ _ at.invariant.each back);
    }
