use Rattle.resil_registry.proofs.RegistryLaws.{IsName-found}
use Rattle.resil_registry.proofs.registry.Registry.find.Goals as goal

pub returns-clause-good : goal.returns-clause-good
returns-clause-good g c =
    IsName-found (record { configurations = c.self.inside.configurations; instances = c.self.inside.instances }) c.args.name.now c.index_of.result c.self.invariant c.index_of.ensures
