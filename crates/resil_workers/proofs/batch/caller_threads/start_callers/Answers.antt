-- One more caller has a thread.
use Rattle.std.proofs.Common.{◌≡◌, [], ◌∙◌, sym, ap, subst}
use Rattle.std.specs.Prelude.{All}
use Rattle.std.proofs.lemmas.List.Elements.{All-head, All-tail}
use Rattle.resil_pool.specs.Parts.{CallerView}
use Rattle.resil_workers.specs.Batch.CallerThreads.{HasSubmitted, PromisesRowsOf}
use Rattle.resil_workers.proofs.ThreadLaws.{all-pushed, numbers-moved, one-more}
use Rattle.resil_workers.proofs.batch.caller_threads.start_callers.Goals as goal

pub loop-caller-preserved : goal.loop-caller-preserved
loop-caller-preserved g c =
    let at = c.loop-caller in
    let step = c.in-Some.ensures.steps in
    let all = subst (λ callers. All (λ k. (k.source ≡ c.args.pool.now.source) × (k.receipts ≡ [])) callers) step.0 at.invariant.callers in
    let promise = c.in-Ok.ensures.ok in
    let mine : c.in-Ok.thread.promise.caller.value ≡ c.in-Some.caller = ap (λ p. p.caller.value) promise ∙ c.of.ensures in
    let own = All-head (λ k. (k.source ≡ c.args.pool.now.source) × (k.receipts ≡ [])) c.in-Some.caller _ all in record {
      each = one-more _ _ _ _ _ _ _ _ _ at.invariant.each step.0 step.1 c.push_reserved.ensures.items;
      room = c.push_reserved.ensures.capacity ∙ at.invariant.room;
      callers = All-tail (λ k. (k.source ≡ c.args.pool.now.source) × (k.receipts ≡ [])) c.in-Some.caller _ all;
      sending = all-pushed (λ t. PromisesRowsOf c.args.batch.now.rows.now c.args.pool.now.source t.promise.rows.now t.promise.caller.value) _ _ _ c.push_reserved.ensures.items at.invariant.sending (record { same = ap (λ p. p.rows.now) promise; from = ap (λ (k : CallerView). k.source) mine ∙ own.0; new = ap (λ (k : CallerView). k.receipts) mine ∙ own.1 });
      numbers = sym (numbers-moved (λ t. t.promise.caller.value.number) (λ (k : CallerView). k.number) _ _ _ _ _ _ c.push_reserved.ensures.items step.0 (ap (λ (k : CallerView). k.number) mine)) ∙ at.invariant.numbers;
    }

pub spawn_with-requires-clause-keeps : goal.spawn_with-requires-clause-keeps
spawn_with-requires-clause-keeps g c κs within r has = subst (λ (k : CallerView). HasSubmitted c.args.batch.now.rows.now k r) (sym c.of.ensures) has
