-- A run has a value within the permits exactly where its recount has one.
use Rattle.std.proofs.Common.{[], arith, reverse, subst}
use Rattle.std.specs.Prelude.{◌↔◌, IsTrue, IsSome}
use Rattle.std.proofs.lemmas.Grind.{common_steps}
use Rattle.resil_decor.specs.Run.{IsValue}
use Rattle.resil_decor.specs.Grants.{permits_of, through_within}
use Rattle.resil_decor.proofs.GrantLaws.{some_within}
use Rattle.resil_decor.proofs.run.Run.fits.Goals as goal

pub returns : goal.returns
returns c =
    let r = c.args.self.now in
    let recount : IsTrue c.is_some.result ↔ IsSome (through_within (permits_of c.args.bulkheads.now) [] (reverse r.plan.layers) (record { script = r.plan.script; asked = r.asked })) = grind (arith, common_steps) in
    let within = some_within c.args.bulkheads.now r (subst IsValue c.self.view_is c.self.invariant) in (λ t. within.0 (recount.0 t), λ w. recount.1 (within.1 w))
