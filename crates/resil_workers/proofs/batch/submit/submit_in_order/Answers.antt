-- Each row finds its caller, and only that caller gets its answer.
use Rattle.std.proofs.Common.{◌≡◌, ◌+◌, ◌-◌, ◌<◌, length, ◌∙◌, rules}
use Rattle.std.proofs.lemmas.List.{length-set}
use Rattle.resil_workers.proofs.RowLaws.{callers-set, told-set, all-told}
use Rattle.resil_workers.proofs.batch.submit.submit_in_order.Goals as goal

pub returns-in_err-submit_next-clause-callers : goal.returns-in_err-submit_next-clause-callers
returns-in_err-submit_next-clause-callers g c =
    let within : c.from.result - 1 < length c.loop-row.callers.items = search rules in
    callers-set _ _ _ _ _ c.loop-row.invariant.callers within c.index_mut-caller.ensures.value c.in_err-submit_next.ensures.same

pub loop-row-preserved : goal.loop-row-preserved
loop-row-preserved g c =
    let within : c.from.result - 1 < length c.loop-row.callers.items = search rules in
    let from : c.row-item.result.caller ≡ (c.from.result - 1) + 1 = search rules in
    let here = c.index_mut-caller.ensures.value in record {
      number = length-set _ _ _ ∙ c.loop-row.invariant.number;
      callers = callers-set _ _ _ _ _ c.loop-row.invariant.callers within here c.in_ok-submit_next.ensures.same;
      told = told-set _ _ _ _ _ _ _ c.loop-row.invariant.told c.loop-row-test.true c.row-item.is within from here c.in_ok-submit_next.ensures.told;
    }

pub returns-clause-told : goal.returns-clause-told
returns-clause-told g c = all-told _ _ _ _ c.loop-row.invariant.told c.loop-row-test.false c.loop-row.invariant.callers
