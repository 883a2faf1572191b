use Rattle.std.proofs.Common.{◌≡◌, ◌==◌, ◌∙◌, false, length, rules, sym, tests}
use Rattle.std.proofs.lemmas.Iterator.Search.{all_from_yields_List}
use Rattle.std.proofs.lemmas.Iterator.Splits.{YieldsList-from_slice_split}
use Rattle.resil_stats.specs.Results.{is_answer}
use Rattle.resil_stats.proofs.results.are_answers.Goals as goal

pub returns-else-is_empty : goal.returns-else-is_empty
returns-else-is_empty c =
    let some : (length c.args.field.now == 0) ≡ false = sym c.is_empty.ensures ∙ c.if-is_empty.false in
    rw some (all_from_yields_List is_answer _ _ _ c.all.ensures.ran
    (YieldsList-from_slice_split _ _ c.args.field.now c.split.ensures.rest c.split.ensures.done c.split.ensures.closure (λ x r q k. search (rules, tests)))
    (λ x b q k. search (rules, tests)))
