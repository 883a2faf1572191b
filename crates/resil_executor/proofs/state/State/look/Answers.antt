-- A poll that finds no job.
use Rattle.std.proofs.Common.{subst}
use Rattle.resil_executor.specs.Turn.{Steps}
use Rattle.resil_executor.proofs.state.State.look.Goals as goal

pub returns-then-is_over-clause-nothing : goal.returns-then-is_over-clause-nothing
returns-then-is_over-clause-nothing g c = (subst (λ (v : _). Steps v c.rest.new.self.last c.rest.new.self.rule) c.in_default.ensures.none.0 c.rest.ensures.steps, c.rest.ensures.plain)

pub returns-else-is_over-clause-nothing : goal.returns-else-is_over-clause-nothing
returns-else-is_over-clause-nothing g c = (subst (λ (v : _). Steps v c.rest.new.self.last c.rest.new.self.rule) c.in_default.ensures.none.0 c.rest.ensures.steps, c.rest.ensures.plain)
