use Rattle.std.proofs.Common.{false}
use Rattle.std.proofs.lemmas.List.{get_or-replicate}
use Rattle.resil_retry.specs.KindTable.{index_of}
use Rattle.resil_retry.proofs.kind_table.KindTable.new.Goals as goal

-- all answers are the same
pub returns : goal.returns
returns c kind within =
    rw (c.in_ok-answers.ensures.items_if_clones_equal (λ y e. e))
    (get_or-replicate 65538 (index_of kind) c.args.answer false within)
