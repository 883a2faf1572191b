use Rattle.resil_virtual.proofs.Words.{◌∙◌, Option, sym, ap, TimedJdkEvent, earliest, finishes, looks_due, own_takes, sooner, submissions_due, history_of}
use Rattle.resil_virtual.proofs.CauseLaws.{at_of}
use Rattle.resil_virtual.proofs.PoolLaws.{due-is}
use Rattle.resil_virtual.proofs.pool.Simulation.next_event.Goals as goal

pub returns : goal.returns
returns c =
    let s = c.args.self.now in
    c.first_event.ensures
    ∙ ap (λ (o : Option TimedJdkEvent). sooner at_of o (sooner at_of c.next_finish.result (sooner at_of c.next_look.result (sooner at_of c.next_submission.result c.next_end.result)))) c.next_own.ensures
    ∙ ap (sooner at_of (earliest at_of (own_takes (history_of s)))) (ap (λ (o : Option TimedJdkEvent). sooner at_of o (sooner at_of c.next_look.result (sooner at_of c.next_submission.result c.next_end.result))) c.next_finish.ensures
    ∙ ap (sooner at_of (earliest at_of (finishes s.arrivals.now (history_of s)))) (ap (λ (o : Option TimedJdkEvent). sooner at_of o (sooner at_of c.next_submission.result c.next_end.result)) c.next_look.ensures
    ∙ ap (sooner at_of (earliest at_of (looks_due (history_of s) s.idle.items))) (ap (λ (o : Option TimedJdkEvent). sooner at_of o c.next_end.result) c.next_submission.ensures
    ∙ ap (sooner at_of (earliest at_of (submissions_due s.plan s.arrivals.now (history_of s)))) c.next_end.ensures)))
    ∙ sym (due-is s.plan s.arrivals.now s.next s.workers s.time s.own_look s.steps s.queue.items s.running.items s.idle.items (history_of s) c.requires)
