use Rattle.std.proofs.Common.{arith, refl}
use Rattle.std.proofs.Math.Nat.{one-le-mul}
use Rattle.std.proofs.lemmas.List.{nil_from_length}
use Rattle.resil_decor.specs.ChainLimits.{max_calls, attempts_of}
use Rattle.resil_decor.proofs.ChainLimitLaws.{max_calls-none, max_calls-cons, factor-le}
use Rattle.resil_decor.proofs.chain.+product_of_attempts.Goals as goal

pub returns-in_default : goal.returns-in_default
returns-in_default t c =
    let none = nil_from_length c.args.layers.now c.in_default.ensures.cases in
    (rw (none, max_calls-none) refl, omega arith, omega arith)

pub returns-in_err-calls : goal.returns-in_err-calls
returns-in_err-calls t c =
    let more = factor-le (attempts_of c.in-Some.layer.now) (max_calls c.in-Some.others.now) (omega (arith, c.attempts.ensures.value, c.attempts.ensures.least)) in
    rw (c.from_residual.ensures, c.in-Some.ensures.cases.0, max_calls-cons) (omega (arith, more, c.in_err-calls.ensures))

pub returns-then-calls-gt-MAX_CALLS : goal.returns-then-calls-gt-MAX_CALLS
returns-then-calls-gt-MAX_CALLS t c =
    let above = rw (c.attempts.ensures.value, c.in_ok-calls.ensures.0) at c.if-calls-gt-MAX_CALLS.true in
    rw (c.in-Some.ensures.cases.0, max_calls-cons) (omega (arith, above))

pub returns : goal.returns
returns t c =
    (rw (c.in-Some.ensures.cases.0, max_calls-cons, c.attempts.ensures.value, c.in_ok-calls.ensures.0) (search), one-le-mul c.attempts.ensures.least c.in_ok-calls.ensures.1, omega (arith, c.if-calls-gt-MAX_CALLS.false))
