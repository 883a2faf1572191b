-- One more caller is back.
use Rattle.std.proofs.Common.{rules, ◌≡◌, [], ◌++◌, ◌∙◌, map, sym, ap, subst, append-nil, OnOk}
use Rattle.std.specs.Prelude.{All}
use Rattle.std.specs.Vec.Iter.{into_iter_items}
use Rattle.std.proofs.lemmas.List.{nil_from_length}
use Rattle.std.proofs.lemmas.Bool.{or_parts}
use Rattle.std.proofs.lemmas.List.Elements.{All-head, All-tail}
use Rattle.resil_pool.specs.Parts.{CallerView}
use Rattle.resil_workers.specs.Batch.Submit.{plans_of, plans_on_receipts}
use Rattle.resil_workers.specs.Batch.CallerThreads.{PromisesRowsOf}
use Rattle.resil_workers.proofs.ThreadLaws.{all-pushed, numbers-moved, told-own, one-more}
use Rattle.resil_workers.proofs.batch.caller_threads.submit_on_threads.Goals as goal

pub loop-thread-preserved : goal.loop-thread-preserved
loop-thread-preserved g c =
    let at = c.loop-thread in
    let step = c.in-Some.ensures.steps in
    let items = c.push_reserved.ensures.items in
    let all = subst (λ threads. All (λ t. PromisesRowsOf c.args.batch.now.rows.now c.args.pool.now.source t.promise.rows.now t.promise.caller.value) threads) step.0 at.invariant.sending in
    let from = All-head (λ t. PromisesRowsOf c.args.batch.now.rows.now c.args.pool.now.source t.promise.rows.now t.promise.caller.value) c.in-Some.thread _ all in
    let back = c.join-caller.ensures in
    let fine = told-own _ _ _ _ c.join-caller.result from back in record {
      each = one-more _ _ _ _ _ _ _ _ _ at.invariant.each step.0 step.1 c.push_reserved.ensures.items;
      room = c.push_reserved.ensures.capacity ∙ at.invariant.room;
      sending = All-tail (λ t. PromisesRowsOf c.args.batch.now.rows.now c.args.pool.now.source t.promise.rows.now t.promise.caller.value) c.in-Some.thread _ all;
      sources = all-pushed (λ (k : CallerView). k.source ≡ c.args.pool.now.source) _ _ _ items at.invariant.sources (back.same.source ∙ from.from);
      numbers = sym (numbers-moved (λ (k : CallerView). k.number) (λ t. t.promise.caller.value.number) _ _ _ _ _ _ items step.0 back.same.number) ∙ at.invariant.numbers;
      told = λ none.
          let apart = or_parts at.out_of_memory _ none in
          all-pushed (λ (k : CallerView). plans_on_receipts k ≡ plans_of c.args.batch.now.rows.now k.number) _ _ _ items (at.invariant.told apart.0) (fine (sym c.is_err-out_of_memory.ensures.value ∙ apart.1));
    }

pub returns-clause-numbers : goal.returns-clause-numbers
returns-clause-numbers g c =
    let at = c.loop-thread in
    let empty : into_iter_items at.thread-iterator ≡ [] = nil_from_length _ (sym at.invariant.each.len_is ∙ c.in-None.ensures.steps.0) in
    let numbers = subst (λ ts. map (λ (k : CallerView). k.number) at.sent.items ++ map (λ t. t.promise.caller.value.number) ts ≡ map (λ t. t.promise.caller.value.number) (into_iter_items c.into_iter-thread-iterator.result)) empty at.invariant.numbers in
    let from : into_iter_items c.into_iter-thread-iterator.result ≡ c.start_callers-threads.result.0.items = search rules in
    sym (append-nil _) ∙ numbers ∙ (ap (map (λ t. t.promise.caller.value.number)) from
    ∙ subst (λ o. OnOk o (map (λ t. t.promise.caller.value.number) c.start_callers-threads.result.0.items ≡ map (λ (k : CallerView). k.number) c.args.callers.items)) c.in_ok-started.was c.start_callers-threads.ensures.numbers)
