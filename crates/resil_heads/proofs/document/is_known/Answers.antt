use Rattle.std.proofs.Common.{◌∙◌, sym, rules, tests}
use Rattle.std.proofs.lemmas.Iterator.{YieldsList-from_slice}
use Rattle.std.proofs.lemmas.Iterator.Search.{any_from_yields_List}
use Rattle.resil_input.specs.TextEquality.{is_same}
use Rattle.resil_heads.specs.Document.{name_of}
use Rattle.resil_heads.specs.declared.forms.Key.{Key}
use Rattle.resil_heads.proofs.DocumentLaws.{list_any-map}
use Rattle.resil_heads.proofs.document.is_known.Goals as goal

pub returns : goal.returns
returns c =
    any_from_yields_List (λ (key : Key). is_same (name_of key) c.args.name.now) _ _ c.any.result c.any.ensures.ran
    (YieldsList-from_slice c.args.keys.now cc)
    (λ x b q k. search (rules, tests))
    ∙ sym (list_any-map (λ known. is_same known c.args.name.now) name_of c.args.keys.now)
