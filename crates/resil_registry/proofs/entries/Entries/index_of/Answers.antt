use Rattle.std.proofs.Common.{◌∙◌, sym, ap}
use Rattle.resil_registry.specs.Entries.{index_of}
use Rattle.resil_registry.proofs.EntriesLaws.{index_of-shown}
use Rattle.resil_registry.proofs.entries.Entries.index_of.Goals as goal

pub returns : goal.returns
returns g c =
    c.get_index_of.ensures.index
    ∙ sym (index_of-shown c.args.name.now c.self.inside.table.entries)
    ∙ ap (index_of c.args.name.now) c.self.view_is
