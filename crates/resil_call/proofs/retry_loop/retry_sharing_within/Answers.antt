use Rattle.std.proofs.Common.{◌≡◌, ◌<◌, ◌≤◌, ◌+◌, ◌-◌, suc, refl, sym, arith, subst}
use Rattle.resil_call.specs.Sharing.{CanCallAt, CanTry, IsAnswerAt}
use Rattle.resil_call.proofs.RetryLaws.{SoFar-start, SoFar-again, SoFar-ended, CanTry-more}
use Rattle.resil_call.proofs.retry_loop.retry_sharing_within.Goals as goal

pub loop-answer-init : goal.loop-answer-init
loop-answer-init g c =
    let all : c.args.policy.now.max_attempts ≡ suc (c.args.policy.now.max_attempts - 1) = omega (arith, c.requires.attempts) in (
      SoFar-start _ _ _ _ _ _ _ _ c.requires.attempts,
      (
        c.args.policy.now.max_attempts - 1,
        omega (arith, c.requires.attempts),
        subst (λ n. CanTry (CanCallAt (goal.F-pre g c.args.call)) (IsAnswerAt (goal.F-post g c.args.call)) g.S.Pause.HasRoom g.S.Pause.IsPaused n c.args.shared.now) all c.requires.can,
      ),
      λ later. absurd {A = g.B.BackoffFor.HasSaid c.args.policy.now.backoff (1 - 1) 0} (omega (arith, later)),
    )

pub call-answer-requires : goal.call-answer-requires
call-answer-requires g c = (CanTry-more _ _ _ _ _ _ c.loop-answer.invariant.1.2).0 _ refl

pub returns-then-not-is_retried : goal.returns-then-not-is_retried
returns-then-not-is_retried g c =
    let verdict = rw c.if-not-is_retried.true at c.is_retried.ensures in
    SoFar-ended _ _ _ _ _ _ _ _ _ _ _ c.loop-answer.attempt c.loop-answer.invariant.0 _ _ refl (record { lent = _; shows = refl; left = _; met = c.call-answer.ensures; leaves = refl }) verdict refl

pub returns-then-attempt-policy : goal.returns-then-attempt-policy
returns-then-attempt-policy g c =
    let verdict = rw c.if-not-is_retried.false at c.is_retried.ensures in
    let last : c.loop-answer.attempt ≡ c.args.policy.now.max_attempts = omega (arith, c.loop-answer.invariant.0.few, c.if-attempt-policy.true) in
    SoFar-ended _ _ _ _ _ _ _ _ _ _ _ c.loop-answer.attempt c.loop-answer.invariant.0 _ _ refl (record { lent = _; shows = refl; left = _; met = c.call-answer.ensures; leaves = refl }) (verdict, last) refl

pub returns-then-not-allows : goal.returns-then-not-allows
returns-then-not-allows g c =
    let verdict = rw c.if-not-is_retried.false at c.is_retried.ensures in
    let refused = rw c.if-not-allows.true at c.allows.ensures in
    let before_last : c.loop-answer.attempt < c.args.policy.now.max_attempts = omega (arith, c.if-attempt-policy.false) in
    SoFar-ended _ _ _ _ _ _ _ _ _ _ _ c.loop-answer.attempt c.loop-answer.invariant.0 _ _ refl (record { lent = _; shows = refl; left = _; met = c.call-answer.ensures; leaves = refl })
    (verdict, before_last) (c.next_for-wait.result, (search), (search))

pub pause-requires : goal.pause-requires
pause-requires g c =
    let left = c.loop-answer.invariant.1 in
    let some_left : 1 ≤ left.0 = omega (arith, left.1, c.if-attempt-policy.false) in
    ((CanTry-more _ _ _ _ left.0 _ left.2).1 _ _ (record { lent = _; shows = refl; left = _; met = c.call-answer.ensures; leaves = refl }) some_left).0

pub loop-answer-preserved : goal.loop-answer-preserved
loop-answer-preserved g c =
    let verdict = rw c.if-not-is_retried.false at c.is_retried.ensures in
    let allowed = rw c.if-not-allows.false at c.allows.ensures in
    let before_last : c.loop-answer.attempt < c.args.policy.now.max_attempts = omega (arith, c.if-attempt-policy.false) in
    let left = c.loop-answer.invariant.1 in
    let some_left : 1 ≤ left.0 = omega (arith, left.1, before_last) in
    let one_less : left.0 ≡ suc (left.0 - 1) = omega (arith, some_left) in
    let same : c.loop-answer.attempt + 1 - 1 ≡ c.loop-answer.attempt = omega arith in
    let can = ((CanTry-more _ _ _ _ left.0 _ left.2).1 _ _ (record { lent = _; shows = refl; left = _; met = c.call-answer.ensures; leaves = refl }) some_left).1 _ _ c.pause.ensures.paused in (
      SoFar-again _ _ _ _ _ _ _ _ _ _ _ c.loop-answer.attempt c.loop-answer.invariant.0 c.call-answer.result c.next_for-wait.result _ c.allows.new.self (record { lent = _; shows = refl; left = _; met = c.call-answer.ensures; leaves = refl })
          verdict before_last (search) (search) c.pause.ensures.paused,
      (
        left.0 - 1,
        omega (arith, left.1, some_left),
        subst (λ n. CanTry (CanCallAt (goal.F-pre g c.args.call)) (IsAnswerAt (goal.F-post g c.args.call)) g.S.Pause.HasRoom g.S.Pause.IsPaused n c.pause.new.self) one_less can,
      ),
      λ later. subst (λ k. g.B.BackoffFor.HasSaid c.args.policy.now.backoff k c.next_for-wait.result) (sym same) c.next_for-wait.ensures.said,
    )
