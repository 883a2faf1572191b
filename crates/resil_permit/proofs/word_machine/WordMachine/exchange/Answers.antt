-- What an exchange shows.
use Rattle.std.proofs.Common.{arith}
use Rattle.resil_permit.proofs.Following.{exchange_took, room, some_to_take}
use Rattle.resil_permit.proofs.word_machine.WordMachine.exchange.Goals as goal

pub overflow_add-caller : goal.overflow_add-caller
overflow_add-caller c =
    let (max, m, f) = c.requires in
    let few = room max c.args.id m f (omega arith) (rw c.from.ensures at c.index_mut-caller.ensures.value) in omega arith

pub overflow_sub-self : goal.overflow_sub-self
overflow_sub-self c =
    let (max, m, f) = c.requires in
    let some = some_to_take max c.args.id m f (omega arith) (rw c.from.ensures at c.index_mut-caller.ensures.value) c.in-Loaded.number c.in-Loaded.is c.if-self-number.false in omega arith

pub returns : goal.returns
returns c = rw c.from.ensures (λ max m f. exchange_took max c.args.id m f (omega arith) (rw c.from.ensures at c.index_mut-caller.ensures.value) c.in-Loaded.number c.in-Loaded.is c.if-self-number.false)
