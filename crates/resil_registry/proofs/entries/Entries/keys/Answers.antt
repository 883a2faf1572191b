use Rattle.std.proofs.Common.{◌∙◌, map, sym, ap, subst}
use Rattle.std.specs.List.{IsDistinct}
use Rattle.std.specs.Str.{bytes_eq}
use Rattle.std.specs.String.{string_bytes}
use Rattle.std.specs.Map.{keys_of}
use Rattle.resil_registry.specs.Entries.{names_of}
use Rattle.resil_registry.proofs.EntriesLaws.{names_of-shown, IsDistinct-string_bytes}
use Rattle.resil_registry.proofs.entries.Entries.keys.Goals as goal

pub returns-clause-names : goal.returns-clause-names
returns-clause-names g c =
    ap (map string_bytes) c.keys.ensures.rest
    ∙ sym (names_of-shown c.self.inside.table.entries)
    ∙ ap names_of c.self.view_is

pub returns-clause-distinct : goal.returns-clause-distinct
returns-clause-distinct g c =
    let names = sym (names_of-shown c.self.inside.table.entries) ∙ ap names_of c.self.view_is in
    subst (IsDistinct bytes_eq) names (IsDistinct-string_bytes (keys_of c.self.inside.table.entries) c.keys.ensures.unique)
