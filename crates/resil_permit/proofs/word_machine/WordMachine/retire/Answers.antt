-- What a retire shows.
use Rattle.std.proofs.Common.{arith}
use Rattle.resil_permit.proofs.Following.{retire_retired, room}
use Rattle.resil_permit.proofs.word_machine.WordMachine.retire.Goals as goal

pub overflow_add-caller : goal.overflow_add-caller
overflow_add-caller c =
    let (max, m, f) = c.requires in
    let few = room max c.args.id m f (omega arith) (rw c.from.ensures at c.index_mut-caller.ensures.value) in omega arith

pub returns : goal.returns
returns c = rw c.from.ensures (λ max m f.
    let retired = retire_retired max c.args.id m f (omega arith) (rw c.from.ensures at c.index_mut-caller.ensures.value) c.in_default.is c.if-caller-eq0.false in search)
