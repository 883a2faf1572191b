use Rattle.std.proofs.Common.{◌==◌, ◌∙◌, arith, rules, sym}
use Rattle.std.proofs.lemmas.Grind.{common_steps}
use Rattle.std.proofs.lemmas.List.{take_rest}
use Rattle.std.proofs.lemmas.List.Sorted.{answers_always}
use Rattle.resil_input.proofs.FramingLaws.{line_at, parts_of-end, parts_of-found, parts_of-next, rest-drop}
use Rattle.resil_input.proofs.framing.split_input.Goals as goal

pub returns-then-is_separator : goal.returns-then-is_separator
returns-then-is_separator c =
    let steps = c.in-Some.ensures.steps in
    let feed = steps.1.2 (λ byte. byte == 10) (answers_always _ _ _ (λ f a r g called. search rules)) in
    let line = line_at _ _ _ _ _ _ c.loop-line.invariant.rest steps.0 steps.1.1 feed.1 steps.2 in
    let found = parts_of-found _ _ _ _ line c.loop-line.invariant.parts (sym c.is_separator.ensures ∙ c.if-is_separator.true) in
    simp take_rest (rw (← rest-drop _ _ _ _ line) (sym found))

pub loop-line-preserved : goal.loop-line-preserved
loop-line-preserved c =
    let steps = c.in-Some.ensures.steps in
    let feed = steps.1.2 (λ byte. byte == 10) (answers_always _ _ _ (λ f a r g called. search rules)) in
    let line = line_at _ _ _ _ _ _ c.loop-line.invariant.rest steps.0 steps.1.1 feed.1 steps.2 in
    let rest = rest-drop _ _ _ _ line in
    let next = parts_of-next _ _ _ _ line c.loop-line.invariant.parts (sym c.is_separator.ensures ∙ c.if-is_separator.false) in
    record { within = grind (arith, common_steps, line.cut); rest = rest; parts = rw (← rest) next }

pub returns : goal.returns
returns c = sym (parts_of-end _ _ (rw (← c.loop-line.invariant.rest) c.in-None.ensures.steps.0) c.loop-line.invariant.parts)
