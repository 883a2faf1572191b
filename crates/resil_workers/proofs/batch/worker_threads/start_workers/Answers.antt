-- One more worker has a thread.
use Rattle.std.proofs.Common.{◌≡◌, [], ◌∙◌, sym, subst, append-nil}
use mathlib.Core.List.{IsPrefix}
use Rattle.resil_pool.specs.Parts.{SeatView}
use Rattle.std.specs.Prelude.{All}
use Rattle.std.proofs.lemmas.List.Elements.{All-tail}
use Rattle.resil_workers.proofs.ThreadLaws.{one-more}
use Rattle.resil_workers.proofs.batch.worker_threads.start_workers.Goals as goal

pub loop-ready-preserved : goal.loop-ready-preserved
loop-ready-preserved g c =
    let at = c.loop-ready in
    let step = c.in-Some.ensures.steps in record {
      each = one-more _ _ _ _ _ _ _ _ _ at.invariant.each step.0 step.1 c.push_reserved.ensures.items;
      room = c.push_reserved.ensures.capacity ∙ at.invariant.room;
      sources = All-tail (λ ready. ready.worker.source ≡ c.args.pool.now.source) c.in-Some.ready _ (subst (λ each. All (λ ready. ready.worker.source ≡ c.args.pool.now.source) each) step.0 at.invariant.sources);
      closer = at.invariant.closer;
      same = at.invariant.same;
    }

pub returns-in-Err-clause-begins : goal.returns-in-Err-clause-begins
returns-in-Err-clause-begins g c = subst (λ (k : SeatView). IsPrefix k.seen c.close.new.closer.seen) c.loop-ready.invariant.same c.close.ensures.begins

pub returns-clause-begins : goal.returns-clause-begins
returns-clause-begins g c = subst (λ (k : SeatView). IsPrefix c.args.closer.now.seen k.seen) (sym c.loop-ready.invariant.same) ([], append-nil _)
