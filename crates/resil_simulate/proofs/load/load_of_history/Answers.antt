use Rattle.resil_simulate.proofs.Words.{◌≡◌, rules, subst, sym, IsLoad, AreInTime, jobs_in}
use Rattle.resil_simulate.proofs.HistoryLaws.{history_load}
use Rattle.resil_simulate.proofs.load.load_of_history.Goals as goal

pub returns-clause-load : goal.returns-clause-load
returns-clause-load c =
    let usable = c.in_ok-check_history.ensures in
    let jobs : c.in_ok-arrivals.arrivals.items ≡ jobs_in c.args.terms c.args.history.now = search rules in
    let in_time : AreInTime c.args.ways (jobs_in c.args.terms c.args.history.now) = subst (AreInTime c.args.ways) (search (rules, jobs)) c.in_ok-check_times.ensures in
    subst (IsLoad c.args.ways.idle_for c.args.ways.wakes) (sym jobs) (history_load usable.legal.0 c.args.ways c.args.terms c.args.history.now usable.legal.2 usable.ascending in_time)
