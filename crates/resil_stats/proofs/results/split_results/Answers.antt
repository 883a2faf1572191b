use Rattle.std.proofs.Common.{◌==◌, ◌∙◌, arith, rules, sym}
use Rattle.std.proofs.lemmas.Grind.{common_steps}
use Rattle.std.proofs.lemmas.List.{take_rest}
use Rattle.std.proofs.lemmas.List.Sorted.{answers_always}
use Rattle.resil_input.proofs.FramingLaws.{line_at, rest-drop}
use Rattle.resil_stats.proofs.ResultLaws.{results-end, results-found, results-next}
use Rattle.resil_stats.proofs.results.split_results.Goals as goal

pub returns-then-parts_results : goal.returns-then-parts_results
returns-then-parts_results c =
    let steps = c.in-Some.ensures.steps in
    let feed = steps.1.2 (λ byte. byte == 10) (answers_always _ _ _ (λ f a r g called. search rules)) in
    let line = line_at _ _ _ _ _ _ c.loop-line.invariant.rest steps.0 steps.1.1 feed.1 steps.2 in
    let told = simp take_rest at c.parts_results.ensures in
    let found = results-found _ _ _ _ line c.loop-line.invariant.parts (sym told ∙ c.if-parts_results.true) in
    simp take_rest (sym found)

pub loop-line-preserved : goal.loop-line-preserved
loop-line-preserved c =
    let steps = c.in-Some.ensures.steps in
    let feed = steps.1.2 (λ byte. byte == 10) (answers_always _ _ _ (λ f a r g called. search rules)) in
    let line = line_at _ _ _ _ _ _ c.loop-line.invariant.rest steps.0 steps.1.1 feed.1 steps.2 in
    let told = simp take_rest at c.parts_results.ensures in
    record {
      within = grind (arith, common_steps, line.cut);
      rest = rest-drop _ _ _ _ line;
      parts = results-next _ _ _ _ line c.loop-line.invariant.parts (sym told ∙ c.if-parts_results.false);
    }

pub returns : goal.returns
returns c = sym (results-end _ _ (rw (← c.loop-line.invariant.rest) c.in-None.ensures.steps.0) c.loop-line.invariant.parts)
