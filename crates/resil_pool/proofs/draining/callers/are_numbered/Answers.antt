-- A number is some caller's exactly where its place is found.
use Rattle.std.proofs.Common.{◌≡◌, ◌+◌, sym, ap, ◌∙◌, arith}
use Rattle.std.specs.Prelude.{true, false}
use mathlib.Core.Logic.{dite}
use native.Mathlib.Decide.{ℕ_discrete}
use Rattle.resil_pool.specs.Parts.{CallerView}
use Rattle.resil_pool.proofs.JoinedCallers.{at_place}
use Rattle.resil_pool.proofs.draining.callers.are_numbered.Goals as goal

pub returns-in_default : goal.returns-in_default
returns-in_default c = (
  (λ e. let bad : false ≡ true = e in absurd cc),
  (λ are. let one = are.each (c.loop-below.below + 1) (omega arith) (omega (arith, c.loop-below-test.true)) in absurd (c.in_default.ensures.none one.0 one.1 one.2 (ap (λ (k : CallerView). k.number) one.3 ∙ one.4))),
)

pub loop-below-preserved : goal.loop-below-preserved
loop-below-preserved c = λ number low high. dite (ℕ_discrete number (c.loop-below.below + 1))
    (λ here.
    let found = c.in-Some.ensures.found in
    let x = at_place c.args.callers.now c.in-Some._place found.0 in
    (c.in-Some._place, x.0, found.0, x.1, ap (λ (k : CallerView). k.number) (sym x.1) ∙ (found.1 x.0 ∙ sym here)))
    (λ apart. c.loop-below.invariant number low (omega arith))
