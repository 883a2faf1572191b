use Rattle.std.proofs.Common.{inl, inr}
use Rattle.std.proofs.lemmas.Result.{IfOk-weaker}
use Rattle.resil_view.specs.Judge.{IsJudgment}
use Rattle.resil_view.proofs.NumberLaws.{judged-legal}
use Rattle.resil_view.proofs.drawn.drawn.Goals as goal

pub shown-requires : goal.shown-requires
shown-requires c =
    let judged : IsJudgment c.args.head.now.limits (inl c.in-Own.events.items) c.in_ok-verdict.verdict = rw c.in-Own.is at c.in_ok-verdict.ensures in
    (c.args.head.now.limits, rw (c.deref-in-Own.ensures.value, c.in_ok-events-in-Own.ensures, c.deref.ensures.value) (judged-legal c.args.head.now.limits (inl c.in-Own.events.items) c.in_ok-verdict.verdict judged))

pub shown-requires-in-Whole : goal.shown-requires-in-Whole
shown-requires-in-Whole c =
    let judged : IsJudgment c.args.head.now.limits (inr c.in-Whole.events.items) c.in_ok-verdict.verdict = rw c.in-Whole.is at c.in_ok-verdict.ensures in
    (c.args.head.now.limits, rw c.deref-in-Whole.ensures.value (judged-legal c.args.head.now.limits (inr c.in-Whole.events.items) c.in_ok-verdict.verdict judged))

pub returns-in_ok-events-in-Own : goal.returns-in_ok-events-in-Own
returns-in_ok-events-in-Own c =
    let judged : IsJudgment c.args.head.now.limits (inl c.in-Own.events.items) c.in_ok-verdict.verdict = rw c.in-Own.is at c.in_ok-verdict.ensures in
    let svg = rw (c.deref-in-Own.ensures.value, c.in_ok-events-in-Own.ensures, c.deref.ensures.value) at c.shown.ensures in
    rw c.in-Own.is (IfOk-weaker c.shown.result _ _ (λ text is. (c.in_ok-verdict.verdict, judged, is)) svg)

pub returns-in-Whole : goal.returns-in-Whole
returns-in-Whole c =
    let judged : IsJudgment c.args.head.now.limits (inr c.in-Whole.events.items) c.in_ok-verdict.verdict = rw c.in-Whole.is at c.in_ok-verdict.ensures in
    let svg = rw c.deref-in-Whole.ensures.value at c.shown-in-Whole.ensures in
    rw c.in-Whole.is (IfOk-weaker c.shown-in-Whole.result _ _ (λ text is. (c.in_ok-verdict.verdict, judged, is)) svg)
