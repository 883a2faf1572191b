use Rattle.std.proofs.Common.{◌≡◌, ◌+◌, ◌-◌, ◌∙◌, refl, arith}
use Rattle.resil_retry.specs.Interval.{uncapped_wait}
use Rattle.resil_retry.proofs.GrowthLaws.{uncapped_wait-more, uncapped_wait-rises, uncapped_wait-kept}
use Rattle.resil_retry.proofs.interval.capped_wait.Goals as goal

pub loop-step-init : goal.loop-step-init
unfolding uncapped_wait
loop-step-init c = record { grown_so_far = refl; within = c.requires.start }

-- the next step reaches the cap, and no later one falls
pub returns-then-next-cap : goal.returns-then-next-cap
returns-then-next-cap c =
    let a = c.args in
    let next = uncapped_wait-more a.first a.numerator a.denominator c.loop-step.step in
    let sum : c.loop-step.step + 1 + (a.steps - (c.loop-step.step + 1)) ≡ a.steps = omega arith in
    let later = rw sum at (uncapped_wait-rises a.first a.numerator a.denominator c.requires.multiplier.0 c.requires.multiplier.1 (c.loop-step.step + 1) (a.steps - (c.loop-step.step + 1))) in
    let reached = rw (c.loop-step.invariant.grown_so_far, ← next) at c.if-next-cap.true in
    omega (arith, later, reached)

-- the next step changes nothing, and so none does
pub returns-then-next-wait : goal.returns-then-next-wait
returns-then-next-wait c =
    let a = c.args in
    let next = uncapped_wait-more a.first a.numerator a.denominator c.loop-step.step in
    let same = next ∙ (rw c.loop-step.invariant.grown_so_far at c.if-next-wait.true) in
    let sum : c.loop-step.step + (a.steps - c.loop-step.step) ≡ a.steps = omega arith in
    let last = rw sum at (uncapped_wait-kept a.first a.numerator a.denominator c.loop-step.step (a.steps - c.loop-step.step) same) in
    omega (arith, last, c.loop-step.invariant.grown_so_far, c.loop-step.invariant.within)

pub loop-step-preserved : goal.loop-step-preserved
loop-step-preserved c =
    let next = uncapped_wait-more c.args.first c.args.numerator c.args.denominator c.loop-step.step in
    record {
      grown_so_far = rw (next, ← c.loop-step.invariant.grown_so_far) refl;
      within = omega arith;
    }
