use Rattle.std.proofs.Common.{◌∙◌, sym, ap, true≢false}
use Rattle.resil_name.specs.Name.{IsName}
use Rattle.resil_registry.specs.Registry.{instance_id}
use Rattle.resil_registry.proofs.RegistryLaws.{index_of-other}
use Rattle.resil_registry.proofs.registry.Registry.instance_id.Goals as goal

pub returns-else-is_name-clause-unknown : goal.returns-else-is_name-clause-unknown
returns-else-is_name-clause-unknown g c =
    sym (ap (λ lists. instance_id lists c.args.name.now) c.self.view_is)
    ∙ index_of-other IsName c.args.name.now c.self.inside.instances c.self.invariant.named (λ good. true≢false (sym (c.if-is_name.ensures.1 good)))
