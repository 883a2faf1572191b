use Rattle.std.proofs.Common.{◌==◌, ◌∙◌, rules, append-nil, ap, sym, Some}
use Rattle.std.proofs.lemmas.List.Sorted.{answers_always}
use Rattle.std.specs.Slice.Iter.{split_done, split_rest}
use Rattle.resil_input.specs.OutcomeText.{parse_outcome}
use Rattle.resil_input.proofs.ScriptLaws.{parts-next, parts_left, script-made, there-gap, there-next}
use Rattle.resil_input.proofs.script.parse_outcomes.Goals as goal

pub returns-in_default : goal.returns-in_default
returns-in_default c =
    let steps = c.in-Some.ensures.steps in
    let first = steps.2 (λ byte. byte == 59) (answers_always _ _ _ (λ f a r g called. search rules)) in
    let next = parts-next (λ byte. byte == 59) _ _ _ _ steps.1 first.1 in
    sym (c.loop-item.invariant ∙ rw (steps.0, next) (there-gap parse_outcome c.loop-item.outcomes.items c.in-Some.item.now (parts_left (λ byte. byte == 59) (split_done c.next.new.self) (split_rest c.next.new.self)) (sym c.parse_outcome.ensures ∙ c.in_default.is)))

pub loop-item-preserved : goal.loop-item-preserved
loop-item-preserved c =
    let steps = c.in-Some.ensures.steps in
    let first = steps.2 (λ byte. byte == 59) (answers_always _ _ _ (λ f a r g called. search rules)) in
    let next = parts-next (λ byte. byte == 59) _ _ _ _ steps.1 first.1 in
    c.loop-item.invariant
    ∙ rw (steps.0, next, c.in_ok-push.ensures.items) (there-next parse_outcome c.loop-item.outcomes.items c.in-Some.item.now (parts_left (λ byte. byte == 59) (split_done c.next.new.self) (split_rest c.next.new.self)) _ (sym c.parse_outcome.ensures ∙ c.in-Some-parse_outcome.is))

pub returns : goal.returns
returns c =
    let steps = c.in-None.ensures.steps in
    c.ok.ensures.value
    ∙ script-made c.new.result c.loop-item.outcomes.items c.args.text.now c.new.ensures.made (c.loop-item.invariant ∙ rw steps.0 (ap Some (append-nil c.loop-item.outcomes.items)))
