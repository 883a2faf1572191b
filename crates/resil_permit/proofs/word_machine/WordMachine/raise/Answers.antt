-- What a raise shows.
use Rattle.std.proofs.Common.{arith}
use Rattle.resil_permit.proofs.Following.{raise_raised, room}
use Rattle.resil_permit.proofs.word_machine.WordMachine.raise.Goals as goal

pub overflow_add-self : goal.overflow_add-self
overflow_add-self c =
    let (max, m, f) = c.requires in
    let few = room max c.args.id m f (omega arith) (rw c.from.ensures at c.index_mut-caller.ensures.value) in omega arith

pub returns : goal.returns
returns c = rw c.from.ensures (λ max m f. raise_raised max c.args.id m f (omega arith) (rw c.from.ensures at c.index_mut-caller.ensures.value) c.in_default.is c.if-caller-eq0.false)
