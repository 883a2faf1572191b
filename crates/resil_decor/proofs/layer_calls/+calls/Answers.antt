use Rattle.std.proofs.Common.{rules, ◌∷◌, [], reverse, sym, subst, ap, ◌∙◌, append-nil, arith}
use Rattle.std.proofs.lemmas.List.{nil_from_length}
use Rattle.resil_decor.specs.declared.course.Course.{Course}
use Rattle.resil_decor.specs.RunLog.{HasRoom}
use Rattle.resil_decor.proofs.RunLogLaws.{HasWritten-none, HasWritten-both}
use Rattle.resil_decor.proofs.ChainLimitLaws.{outermost_first, max_calls-cons, max_permit_requests-bulkhead}
use Rattle.resil_decor.proofs.LayerCallLaws.{IsCallThrough-innermost, IsCallThrough-refused, IsCallThrough-granted, IsCallThrough-fallback, room_permitted, room_in_fallback}
use Rattle.resil_decor.proofs.RetryCallLaws.{CanTry-through, accepted, gave_up}
use Rattle.resil_decor.proofs.layer_calls.+calls.Goals as goal

pub call_with_bulkhead-push_answer-requires : goal.call_with_bulkhead-push_answer-requires
call_with_bulkhead-push_answer-requires g t c = let asked = rw max_permit_requests-bulkhead at c.requires.asked in omega (arith, asked)

pub call_with_bulkhead-returns-then-not-granted-clause-ran : goal.call_with_bulkhead-returns-then-not-granted-clause-ran
call_with_bulkhead-returns-then-not-granted-clause-ran g t c =
    let some_call = rw max_calls-cons at c.requires.some_call in
    IsCallThrough-refused c.args.id (reverse c.args.inside.now) c.args.player.now
    (g.P.Permitter.answers c.args.permitter.now) (g.P.Permitter.answers c.enter-granted.new.self) c.args.log.now c.push_answer.new.self (omega (arith, some_call))
    (rw c.if-not-granted.true at c.enter-granted.ensures.answered)
    (rw c.if-not-granted.true at c.push_answer.ensures)

pub call_with_bulkhead-returns-then-not-granted-clause-given : goal.call_with_bulkhead-returns-then-not-granted-clause-given
call_with_bulkhead-returns-then-not-granted-clause-given g t c = record {
  more = record { id = c.args.id; granted = c.enter-granted.result } ∷ [];
  written = c.push_answer.ensures.asked;
  holds = c.enter-granted.ensures.given;
}

pub call_with_bulkhead-call_through-outcome-requires : goal.call_with_bulkhead-call_through-outcome-requires
call_with_bulkhead-call_through-outcome-requires g t c κs within =
    (omega arith, (within, room_permitted c.args.id (reverse c.args.inside.now) c.args.log.now c.push_answer.new.self _ c.requires c.push_answer.ensures))

pub call_with_bulkhead-returns-clause-ran : goal.call_with_bulkhead-returns-clause-ran
call_with_bulkhead-returns-clause-ran g t c =
    rw c.leave.ensures.answered
    (IsCallThrough-granted c.args.id (reverse c.args.inside.now) c.args.player.now c.call_through-outcome.new.player _ _ _ c.args.log.now c.push_answer.new.self c.call_through-outcome.new.log c.call_through-outcome.result
    (rw c.if-not-granted.false at c.enter-granted.ensures.answered)
    (rw c.if-not-granted.false at c.push_answer.ensures)
    c.call_through-outcome.ensures.ran)

pub call_with_bulkhead-returns-clause-held : goal.call_with_bulkhead-returns-clause-held
call_with_bulkhead-returns-clause-held g t c = search rules

pub call_with_bulkhead-returns-clause-given : goal.call_with_bulkhead-returns-clause-given
call_with_bulkhead-returns-clause-given g t c =
    HasWritten-both _ _ _ c.args.log.now c.push_answer.new.self c.call_through-outcome.new.log
    (λ front back acquired inside. g.met.P.Permitter.append_between c.args.permitter.now c.enter-granted.new.self c.leave.new.self front back acquired
    (rw append-nil at (g.met.P.Permitter.append_between c.enter-granted.new.self c.call_through-outcome.new.permitter c.leave.new.self back [] inside c.leave.ensures.given)))
    (record {
      more = record { id = c.args.id; granted = c.enter-granted.result } ∷ [];
      written = c.push_answer.ensures.asked;
      holds = c.enter-granted.ensures.given;
    })
    c.call_through-outcome.ensures.given

pub call_through-returns-in_default-clause-given : goal.call_through-returns-in_default-clause-given
call_through-returns-in_default-clause-given g t c =
    HasWritten-none _ c.args.log.now c.count_call.new.self (g.met.P.Permitter.none_between c.args.permitter.now) (ap (λ w. w.asked) c.count_call.ensures)

pub call_through-returns-in_default-clause-ran : goal.call_through-returns-in_default-clause-ran
call_through-returns-in_default-clause-ran g t c =
    let none = nil_from_length c.args.layers.now c.in_default.ensures.cases in
    rw none
    (IsCallThrough-innermost c.args.player.now c.call.new.self _ c.args.log.now c.count_call.new.self c.call.result
    c.call.ensures.answer.0 c.call.ensures.answer.1 c.count_call.ensures)

pub call_through-call_through-outcome-requires : goal.call_through-call_through-outcome-requires
call_through-call_through-outcome-requires g t c κs within =
    let last = c.in-Some.ensures.cases in
    let layers = outermost_first c.args.layers.now c.in-Some.inside.now c.in-Some.outermost.now last.0 ∙ ap (λ layer. layer ∷ reverse c.in-Some.inside.now) c.in-Fallback.is in
    (omega (arith, last.1), (within, room_in_fallback c.in-Fallback.catch c.in-Fallback.value (reverse c.in-Some.inside.now) c.args.log.now (rw layers at c.requires)))

pub call_through-returns-in-Fallback-clause-ran : goal.call_through-returns-in-Fallback-clause-ran
call_through-returns-in-Fallback-clause-ran g t c =
    let last = c.in-Some.ensures.cases in
    let layers = outermost_first c.args.layers.now c.in-Some.inside.now c.in-Some.outermost.now last.0 ∙ ap (λ layer. layer ∷ reverse c.in-Some.inside.now) c.in-Fallback.is in
    rw (layers, c.fallback_outcome.ensures)
    (IsCallThrough-fallback c.in-Fallback.catch c.in-Fallback.value (reverse c.in-Some.inside.now) c.args.player.now c.call_through-outcome.new.player _ _ c.args.log.now c.call_through-outcome.new.log c.call_through-outcome.result c.call_through-outcome.ensures.ran)

pub call_with_retry-retry_sharing-tried-requires-clause-can : goal.call_with_retry-retry_sharing-tried-requires-clause-can
call_with_retry-retry_sharing-tried-requires-clause-can g t c =
    rw c.policy.ensures.value
    (CanTry-through g.P.Permitter.answers g.P.Permitter.held g.P.Permitter.AnsweredBetween c.args.config.now (reverse c.args.inside.now) _
    (λ y room lent shows. (omega arith, ((λ a within. within), subst (λ (x : Course g.row.P.Denot). HasRoom (reverse c.args.inside.now) x.log.now) (sym shows) room))) _ c.requires)

pub call_with_retry-returns-in-Accepted : goal.call_with_retry-returns-in-Accepted
call_with_retry-returns-in-Accepted g t c =
    let done = accepted g.P.Permitter.answers g.P.Permitter.held g.P.Permitter.AnsweredBetween c.args.config.now (reverse c.args.inside.now) g.met.P.Permitter.none_between g.met.P.Permitter.append_between _ _ _
    (rw c.policy.ensures.value at c.policy.ensures.least) (rw c.policy.ensures.value at c.retry_sharing-tried.ensures) c.in-Accepted.is in
    search (rules, sym done.player, sym done.permitter, sym done.log, done.ran, done.held_after, done.given) depth 2

pub call_with_retry-returns-in-Exhausted : goal.call_with_retry-returns-in-Exhausted
call_with_retry-returns-in-Exhausted g t c =
    let done = gave_up g.P.Permitter.answers g.P.Permitter.held g.P.Permitter.AnsweredBetween c.args.config.now (reverse c.args.inside.now) g.met.P.Permitter.none_between g.met.P.Permitter.append_between _ _ _
    (rw c.policy.ensures.value at c.policy.ensures.least) (rw c.policy.ensures.value at c.retry_sharing-tried.ensures) c.in-Exhausted.is in
    search (rules, sym done.player, sym done.permitter, sym done.log, done.ran, done.held_after, done.given) depth 2
