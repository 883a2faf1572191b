use Rattle.std.proofs.Common.{◌∙◌, ◌++◌, ◌∷◌, [], ap}
use Rattle.std.specs.String.{string_bytes}
use Rattle.resil_registry.specs.Entries.{index_of}
use Rattle.resil_registry.proofs.EntriesLaws.{shown, shown-insert_entry}
use Rattle.resil_registry.proofs.entries.Entries.append.Goals as goal

pub returns-in-Ok-insert-clause-appended : goal.returns-in-Ok-insert-clause-appended
returns-in-Ok-insert-clause-appended g c =
    let is_name = c.in-Ok.ensures.ok in
    let new = ap (index_of (string_bytes c.in-Ok.key)) c.self.view_is ∙ ap (λ name. index_of name c.args.self.now) is_name ∙ c.requires in
    ap shown c.in-Ok-insert.ensures.entries
    ∙ shown-insert_entry c.self.inside.table c.in-Ok.key c.args.value new
    ∙ ap (λ entries. entries ++ (string_bytes c.in-Ok.key, c.args.value) ∷ []) c.self.view_is
    ∙ ap (λ name. c.args.self.now ++ (name, c.args.value) ∷ []) is_name
