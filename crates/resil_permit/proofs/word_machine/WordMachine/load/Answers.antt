-- What a load shows.
use Rattle.std.proofs.Common.{arith}
use Rattle.resil_permit.proofs.Following.{load_refused}
use Rattle.resil_permit.proofs.word_machine.WordMachine.load.Goals as goal

pub returns-then-self-eq0 : goal.returns-then-self-eq0
returns-then-self-eq0 c = rw c.from.ensures (λ max m f.
    let refused = load_refused max c.args.id m f (omega arith) (rw c.from.ensures at c.index_mut-caller.ensures.value) c.in_default.is c.if-self-eq0.true in search)
