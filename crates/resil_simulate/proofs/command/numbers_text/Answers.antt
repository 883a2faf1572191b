use Rattle.resil_simulate.proofs.Words.{◌∙◌, List, All, Arrival, plan_of, rules, subst, sym, IsPoolRun, IsRead}
use Rattle.resil_simulate.specs.declared.command.LoadView.TheVariants as load_view
use Rattle.resil_simulate.proofs.command.numbers_text.Goals as goal

pub returns : goal.returns
returns c c' =
    let plan = plan_of c'.in-Ok.read.0 in
    let load = c'.in-Ok.read.1 in
    let done = c'.in_ok-done.done.items in
    let Read = IsRead load_view.Numbers c'.args.input.now plan load.arrivals.items load.own in
    let Run : List Arrival → Type 0 = λ arrivals. All (λ pool. IsPoolRun plan.ways arrivals pool.0 pool.1) done in
    (plan, load.arrivals.items, load.own, done, subst Read (sym (c'.in_ok-done.ensures.pools ∙ c'.deref.ensures.value)) c'.in-Ok.ensures, subst Run c'.deref-2.ensures.value c'.in_ok-done.ensures.numbers, search rules)
