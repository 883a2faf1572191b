use Rattle.resil_virtual.proofs.Words.{◌∙◌, Some, None, ap, JdkReply, Submit, history_of}
use Rattle.resil_virtual.proofs.PoolLaws.{job-due, reply-now}
use Rattle.resil_virtual.proofs.pool.Simulation.next_submission.Goals as goal

pub returns-in-Some : goal.returns-in-Some
returns-in-Some c =
    let s = c.args.self.now in
    let reply = c.reply.ensures ∙ reply-now s.plan s.arrivals.now s.next s.workers s.time s.own_look s.steps s.queue.items s.running.items s.idle.items (history_of s) c.requires in
    ap (λ (r : JdkReply). Some (record { event = Submit c.in-Some.job.id r; at = c.in-Some.job.at })) reply
    ∙ job-due s.plan s.arrivals.now s.next s.workers s.time s.own_look s.steps s.queue.items s.running.items s.idle.items (history_of s) c.requires (Some c.in-Some.job) c.in-Some.ensures

pub returns-in-None : goal.returns-in-None
returns-in-None c =
    let s = c.args.self.now in
    job-due s.plan s.arrivals.now s.next s.workers s.time s.own_look s.steps s.queue.items s.running.items s.idle.items (history_of s) c.requires None c.in-None.ensures
