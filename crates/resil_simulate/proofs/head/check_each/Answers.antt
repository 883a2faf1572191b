use Rattle.std.proofs.Common.{◌≡◌, rules, tests}
use Rattle.std.proofs.lemmas.Iterator.{YieldsList-from_slice}
use Rattle.std.proofs.lemmas.Iterator.Search.{all_from_yields_List}
use Rattle.std.specs.List.{list_all}
use Rattle.resil_heads.specs.Sizes.{is_within}
use Rattle.resil_simulate.proofs.head.check_each.Goals as goal

pub returns : goal.returns
returns c =
    let all : c.all-all.result ≡ list_all (is_within c.args.least c.args.greatest) c.args.sizes.now =
    all_from_yields_List (is_within c.args.least c.args.greatest) _ _ c.all-all.result c.all-all.ensures.ran (YieldsList-from_slice c.args.sizes.now cc) (λ x b q k. search (rules, tests)) in
    search (rules, all)
