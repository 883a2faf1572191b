use Rattle.std.proofs.Common.{◌≡◌, ◌∙◌, map, List, ℕ, string_bytes, rules, tests}
use Rattle.std.proofs.lemmas.Iterator.Consumers.{YieldsList-from_rest}
use Rattle.std.proofs.lemmas.Iterator.Search.{all_from_yields_List}
use Rattle.toml.specs.View.{table_view}
use Rattle.resil_heads.specs.Document.{has_only, is_known, name_of}
use Rattle.resil_heads.proofs.DocumentLaws.{has_only-keys}
use Rattle.resil_heads.proofs.document.check_known.Goals as goal

pub returns-then-all : goal.returns-then-all
returns-then-all c =
    let keys : List (List ℕ) = map name_of c.args.keys.now in
    let all : c.all-all.result ≡ has_only keys (table_view c.args.table.now) =
    all_from_yields_List (λ k. is_known keys (string_bytes k)) _ _ c.all-all.result c.all-all.ensures.ran
    (YieldsList-from_rest _ c.keys.ensures.rest) (λ x b q k. search (rules, tests))
    ∙ has_only-keys keys c.args.table.now.entries in
    search (rules, tests, all)

pub returns-else-all : goal.returns-else-all
returns-else-all c =
    let keys : List (List ℕ) = map name_of c.args.keys.now in
    let all : c.all-all.result ≡ has_only keys (table_view c.args.table.now) =
    all_from_yields_List (λ k. is_known keys (string_bytes k)) _ _ c.all-all.result c.all-all.ensures.ran
    (YieldsList-from_rest _ c.keys.ensures.rest) (λ x b q k. search (rules, tests))
    ∙ has_only-keys keys c.args.table.now.entries in
    search (rules, tests, all)
