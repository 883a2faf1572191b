use Rattle.resil_simulate.proofs.Words.{◌∙◌, ap, subst, sym, AreAscending, IsLoad, times_of, AreInTime}
use Rattle.resil_simulate.proofs.LoadLaws.{is_load}
use Rattle.resil_simulate.proofs.load.load_of.Goals as goal

pub returns-in-None-clause-load : goal.returns-in-None-clause-load
returns-in-None-clause-load c =
    let times = c.deref-2.ensures.value ∙ c.in_ok-times.ensures ∙ ap times_of (c.deref.ensures.value ∙ c.in_ok-arrivals.ensures) in
    let in_time = subst (AreInTime c.args.ways) (c.deref-3.ensures.value ∙ c.in_ok-arrivals.ensures) c.in-None.ensures in
    subst (IsLoad c.args.ways.idle_for c.args.ways.wakes) (sym c.in_ok-arrivals.ensures) (is_load c.args.ways c.args.rows.now (subst AreAscending times c.in_default.ensures) in_time)
