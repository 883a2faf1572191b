use Rattle.std.proofs.Common.{[], arith, subst, sym}
use Rattle.resil_simulate.specs.Tally.{IsTallyOf, IsTimed}
use Rattle.resil_simulate.proofs.command.opening_tally.Goals as goal
use Rattle.resil_simulate.proofs.command.opening_tally.Goals.{in-Some+in_ok-add, in_default}

pub add-requires : goal.add-requires
add-requires c = ([], c.new-tally.ensures, subst IsTimed (sym c.in-Some.ensures) c.requires, omega arith)

pub returns : goal.returns
returns c = elim c.match-opening.branch [
  | in-Some+in_ok-add w ↦
      rw w.tally-is (subst (λ history. IsTallyOf history w.add.new.self) w.in-Some.ensures (w.in_ok-add.ensures [] c.new-tally.ensures (subst IsTimed (sym w.in-Some.ensures) c.requires)))
  | in_default w ↦ rw w.tally-is (subst (λ history. IsTallyOf history c.new-tally.result) w.in_default.ensures c.new-tally.ensures)
]
