use Rattle.resil_simulate.proofs.Words.{get_or, plan_of, rules}
use Rattle.resil_simulate.proofs.CommandLaws.{read-one}
use Rattle.resil_simulate.proofs.command.history_text.Goals as goal

pub returns : goal.returns
returns c =
    let plan = plan_of c.in-Ok.read.0 in
    let load = c.in-Ok.read.1 in
    let d = c.index-limits.result.now in
    (plan, get_or load.pools.items 0 d, load.arrivals.items, load.own, c.in_ok-history.history.items, read-one c.args.input.now plan load.arrivals.items load.own load.pools.items d c.in-Ok.ensures, search rules, search rules)
