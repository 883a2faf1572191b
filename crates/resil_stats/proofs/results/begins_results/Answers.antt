use Rattle.std.proofs.Common.{◌==◌, ◌∙◌, ap, rules, sym}
use Rattle.std.proofs.lemmas.List.Sorted.{answers_always}
use Rattle.resil_input.proofs.FramingLaws.{line_at}
use Rattle.resil_stats.specs.Results.{begins_results}
use Rattle.resil_stats.proofs.results.begins_results.Goals as goal

pub returns-in-Some : goal.returns-in-Some
returns-in-Some c =
    let steps = c.in-Some.ensures.steps in
    let feed = steps.1.2 (λ byte. byte == 10) (answers_always _ _ _ (λ f a r g called. search rules)) in
    let line = line_at c.args.text.now _ _ _ 0 _ c.split_inclusive.ensures.rest steps.0 steps.1.1 feed.1 steps.2 in
    c.is_results_line.ensures ∙ sym (ap begins_results line.first)
