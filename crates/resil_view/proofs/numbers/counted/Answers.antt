use Rattle.std.proofs.Common.{inl, inr}
use Rattle.std.proofs.lemmas.Result.{IfOk-weaker}
use Rattle.resil_view.specs.Judge.{IsJudgment}
use Rattle.resil_view.proofs.NumberLaws.{judged-legal}
use Rattle.resil_view.proofs.numbers.counted.Goals as goal

pub table_of-requires : goal.table_of-requires
table_of-requires c =
    let judged : IsJudgment c.args.limits.now (inl c.in-Own.events.items) c.in_ok-verdict.verdict = rw c.in-Own.is at c.in_ok-verdict.ensures in
    (c.args.limits.now, rw (c.deref-in-Own.ensures.value, c.in_ok-events-in-Own.ensures, c.deref.ensures.value) (judged-legal c.args.limits.now (inl c.in-Own.events.items) c.in_ok-verdict.verdict judged))

pub table_of-requires-in-Whole : goal.table_of-requires-in-Whole
table_of-requires-in-Whole c =
    let judged : IsJudgment c.args.limits.now (inr c.in-Whole.events.items) c.in_ok-verdict.verdict = rw c.in-Whole.is at c.in_ok-verdict.ensures in
    (c.args.limits.now, rw c.deref-in-Whole.ensures.value (judged-legal c.args.limits.now (inr c.in-Whole.events.items) c.in_ok-verdict.verdict judged))

pub returns-in_ok-events-in-Own : goal.returns-in_ok-events-in-Own
returns-in_ok-events-in-Own c =
    let judged : IsJudgment c.args.limits.now (inl c.in-Own.events.items) c.in_ok-verdict.verdict = rw c.in-Own.is at c.in_ok-verdict.ensures in
    let table = rw (c.deref-in-Own.ensures.value, c.in_ok-events-in-Own.ensures, c.deref.ensures.value) at c.table_of.ensures in
    rw c.in-Own.is (IfOk-weaker c.table_of.result _ _ (λ text is. (c.in_ok-verdict.verdict, judged, is)) table)

pub returns-in-Whole : goal.returns-in-Whole
returns-in-Whole c =
    let judged : IsJudgment c.args.limits.now (inr c.in-Whole.events.items) c.in_ok-verdict.verdict = rw c.in-Whole.is at c.in_ok-verdict.ensures in
    let table = rw c.deref-in-Whole.ensures.value at c.table_of-in-Whole.ensures in
    rw c.in-Whole.is (IfOk-weaker c.table_of-in-Whole.result _ _ (λ text is. (c.in_ok-verdict.verdict, judged, is)) table)
