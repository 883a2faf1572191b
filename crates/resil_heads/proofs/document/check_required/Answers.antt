use Rattle.std.proofs.Common.{◌≡◌, ◌∙◌, rules, sym, tests}
use Rattle.std.proofs.lemmas.Iterator.{YieldsList-from_slice}
use Rattle.std.proofs.lemmas.Iterator.Search.{all_from_yields_List}
use Rattle.toml.specs.View.{table_view}
use Rattle.resil_heads.specs.Document.{has_all, has_needed, required_of}
use Rattle.resil_heads.specs.declared.forms.Key.{Key}
use Rattle.resil_heads.proofs.DocumentLaws.{has_all-needed}
use Rattle.resil_heads.proofs.document.check_required.Goals as goal

pub returns-then-all : goal.returns-then-all
returns-then-all c =
    let all : c.all-all.result ≡ has_all (required_of c.args.keys.now) (table_view c.args.table.now) =
    all_from_yields_List (λ (key : Key). has_needed (table_view c.args.table.now) key) _ _ c.all-all.result c.all-all.ensures.ran
    (YieldsList-from_slice c.args.keys.now cc) (λ x b q k. search (rules, tests))
    ∙ sym (has_all-needed (table_view c.args.table.now) c.args.keys.now) in
    search (rules, tests, all)

pub returns-else-all : goal.returns-else-all
returns-else-all c =
    let all : c.all-all.result ≡ has_all (required_of c.args.keys.now) (table_view c.args.table.now) =
    all_from_yields_List (λ (key : Key). has_needed (table_view c.args.table.now) key) _ _ c.all-all.result c.all-all.ensures.ran
    (YieldsList-from_slice c.args.keys.now cc) (λ x b q k. search (rules, tests))
    ∙ sym (has_all-needed (table_view c.args.table.now) c.args.keys.now) in
    search (rules, tests, all)
