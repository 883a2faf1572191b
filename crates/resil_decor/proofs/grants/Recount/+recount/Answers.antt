use Rattle.std.proofs.Common.{◌≡◌, ◌≤◌, ◌<◌, ◌-◌, ◌∙◌, ap, sym, arith, option_map, Some}
use Rattle.std.proofs.lemmas.Grind.{common_steps}
use Rattle.resil_decor.specs.Grants.{permits_of, call_at, outcome_and_rest}
use Rattle.resil_decor.proofs.RecountLaws.{at_innermost, at_retry, at_bulkhead, at_fallback, fallback_answer, fallback_answer-none, no_answer, retry_answer-none, retry_answer-stopped, retry_answer-exhausted, retry_answer-again}
use Rattle.resil_decor.proofs.grants.Recount.+recount.Goals as goal

pub call_through-returns-in_default : goal.call_through-returns-in_default
call_through-returns-in_default t c =
    let not_one : 1 ≤ c.args.depth → ⊥ = c.in_default.ensures in
    let none : c.args.depth ≡ 0 = omega arith in
    let permits = permits_of c.args.self.now.bulkheads.now in
    ap (λ script. Some (c.call.result, record { script = script; asked = c.left.inside.asked.now })) c.call.ensures.answer.1
    ∙ at_innermost permits c.args.self.now.layers.now c.args.depth (record { script = c.left.inside.player; asked = c.left.inside.asked.now }) c.call.result none c.call.ensures.answer.0
    ∙ ap (λ left. option_map outcome_and_rest (call_at permits c.args.self.now.layers.now c.args.depth left)) c.left.view_is

pub call_through-returns-in-Retry : goal.call_through-returns-in-Retry
call_through-returns-in-Retry t c =
    rw (at_retry (permits_of c.args.self.now.bulkheads.now) c.args.self.now.layers.now c.args.depth c.in-Some.inside c.index-self-inside.result c.args.left.now (omega arith) c.requires c.in-Retry.config c.in-Retry.is) c.call_with_retry.ensures

pub call_through-returns-in-Bulkhead : goal.call_through-returns-in-Bulkhead
call_through-returns-in-Bulkhead t c =
    rw (at_bulkhead (permits_of c.args.self.now.bulkheads.now) c.args.self.now.layers.now c.args.depth c.in-Some.inside c.index-self-inside.result c.args.left.now (omega arith) c.requires c.in-Bulkhead.id c.in-Bulkhead.is) c.call_with_bulkhead.ensures

pub call_through-returns-in_ok-outcome-in-Fallback : goal.call_through-returns-in_ok-outcome-in-Fallback
call_through-returns-in_ok-outcome-in-Fallback t c =
    let permits = permits_of c.args.self.now.bulkheads.now in
    ap (λ outcome. Some (outcome, c.call_through.new.left)) c.fallback_outcome.ensures
    ∙ fallback_answer c.in-Fallback.catch c.in-Fallback.value (call_at permits c.args.self.now.layers.now c.in-Some.inside c.args.left.now) c.in_ok-outcome-in-Fallback.outcome c.call_through.new.left c.in_ok-outcome-in-Fallback.ensures
    ∙ ap (option_map outcome_and_rest) (sym (at_fallback permits c.args.self.now.layers.now c.args.depth c.in-Some.inside c.index-self-inside.result c.args.left.now (omega arith) c.requires c.in-Fallback.catch c.in-Fallback.value c.in-Fallback.is))

pub call_through-returns-in_err-outcome-in-Fallback : goal.call_through-returns-in_err-outcome-in-Fallback
call_through-returns-in_err-outcome-in-Fallback t c =
    let permits = permits_of c.args.self.now.bulkheads.now in
    no_answer c.from_residual.result _ _ c.from_residual.ensures
    (fallback_answer-none c.in-Fallback.catch c.in-Fallback.value (call_at permits c.args.self.now.layers.now c.in-Some.inside c.args.left.now) c.in_err-outcome-in-Fallback.ensures
    ∙ ap (option_map outcome_and_rest) (sym (at_fallback permits c.args.self.now.layers.now c.args.depth c.in-Some.inside c.index-self-inside.result c.args.left.now (omega arith) c.requires c.in-Fallback.catch c.in-Fallback.value c.in-Fallback.is)))

pub call_with_retry-returns-in_err-outcome : goal.call_with_retry-returns-in_err-outcome
call_with_retry-returns-in_err-outcome t c =
    let call = call_at (permits_of c.args.self.now.bulkheads.now) c.args.self.now.layers.now c.args.inside in
    no_answer c.from_residual.result _ _ c.from_residual.ensures
    (sym (retry_answer-none c.args.config.now call (c.args.config.now.max_attempts - c.loop-attempt._attempt) c.loop-attempt._attempt c.loop-attempt.left c.in_err-outcome.ensures) ∙ c.loop-attempt.invariant)

pub call_with_retry-returns-then-not-again : goal.call_with_retry-returns-then-not-again
call_with_retry-returns-then-not-again t c =
    let call = call_at (permits_of c.args.self.now.bulkheads.now) c.args.self.now.layers.now c.args.inside in
    sym (retry_answer-stopped c.args.config.now call c.loop-attempt._attempt c.loop-attempt.left c.call_through.new.left c.in_ok-outcome.outcome c.in_ok-outcome.ensures
    (c.args.config.now.max_attempts - c.loop-attempt._attempt) (sym c.again.ensures ∙ c.if-not-again.true))
    ∙ c.loop-attempt.invariant

pub call_with_retry-loop-attempt-preserved : goal.call_with_retry-loop-attempt-preserved
call_with_retry-loop-attempt-preserved t c =
    let call = call_at (permits_of c.args.self.now.bulkheads.now) c.args.self.now.layers.now c.args.inside in
    let before_last : c.loop-attempt._attempt < c.args.config.now.max_attempts = omega arith in
    sym (retry_answer-again c.args.config.now call c.loop-attempt._attempt c.loop-attempt.left c.call_through.new.left c.in_ok-outcome.outcome c.in_ok-outcome.ensures
    c.args.config.now.max_attempts before_last (sym c.again.ensures ∙ c.if-not-again.false))
    ∙ c.loop-attempt.invariant

pub call_with_retry-returns-in_err-outcome-2 : goal.call_with_retry-returns-in_err-outcome-2
call_with_retry-returns-in_err-outcome-2 t c =
    let call = call_at (permits_of c.args.self.now.bulkheads.now) c.args.self.now.layers.now c.args.inside in
    no_answer c.from_residual-in_err-outcome-2.result _ _ c.from_residual-in_err-outcome-2.ensures
    (sym (retry_answer-none c.args.config.now call (c.args.config.now.max_attempts - c.loop-attempt._attempt) c.loop-attempt._attempt c.loop-attempt.left c.in_err-outcome-2.ensures) ∙ c.loop-attempt.invariant)

pub call_with_retry-returns-then-again : goal.call_with_retry-returns-then-again
call_with_retry-returns-then-again t c =
    let call = call_at (permits_of c.args.self.now.bulkheads.now) c.args.self.now.layers.now c.args.inside in
    let none_left : c.args.config.now.max_attempts - c.loop-attempt._attempt ≡ 0 = omega arith in
    ap (λ outcome. Some (outcome, c.call_through-2.new.left)) c.exhausted_outcome.ensures
    ∙ sym (retry_answer-exhausted c.args.config.now call c.loop-attempt._attempt c.loop-attempt.left c.call_through-2.new.left c.in_ok-outcome-2.outcome c.in_ok-outcome-2.ensures
    (c.args.config.now.max_attempts - c.loop-attempt._attempt) none_left (sym c.again-2.ensures ∙ c.if-again.true))
    ∙ c.loop-attempt.invariant

pub call_with_retry-returns-else-again : goal.call_with_retry-returns-else-again
call_with_retry-returns-else-again t c =
    let call = call_at (permits_of c.args.self.now.bulkheads.now) c.args.self.now.layers.now c.args.inside in
    sym (retry_answer-stopped c.args.config.now call c.loop-attempt._attempt c.loop-attempt.left c.call_through-2.new.left c.in_ok-outcome-2.outcome c.in_ok-outcome-2.ensures
    (c.args.config.now.max_attempts - c.loop-attempt._attempt) (sym c.again-2.ensures ∙ c.if-again.false))
    ∙ c.loop-attempt.invariant

-- what the prover finds by itself, written down because edits that must fail open it
pub call_with_bulkhead-returns-then-held-permits : goal.call_with_bulkhead-returns-then-held-permits
call_with_bulkhead-returns-then-held-permits t c = grind (arith, common_steps)
