-- The slot that the seat holds has the state.
use Rattle.std.proofs.Common.{◌∷◌, Some, ap, ◌∙◌, sym}
use Rattle.atomic_table.specs.Table.{rest}
use Rattle.resil_lock.proofs.lock.Lock.take.Goals as goal

pub exchange-requires : goal.exchange-requires
exchange-requires g c =
    let slot = c.spin.ensures.took.slot in
    (c.spin.ensures.source ∙ c.requires.source, (_, slot ∙ ap (λ xs. (0, Some c.spin.ensures.took.state) ∷ xs) (ap rest (sym slot))))
