use Rattle.resil_virtual.specs.Pool.{history_of}
use Rattle.resil_virtual.proofs.PoolLaws.{ended-left, ended-parts, some-worker}
use Rattle.resil_virtual.proofs.pool.Simulation.end.Goals as goal

pub overflow_sub-self : goal.overflow_sub-self
overflow_sub-self c = let s = c.args.self.now in some-worker s.plan s.arrivals.now s.next s.workers s.time s.own_look s.steps s.queue.items s.running.items s.idle.items (history_of s) c.requires.pool c.args.at c.requires.due

pub returns-clause-pool : goal.returns-clause-pool
returns-clause-pool c =
    let s = c.args.self.now in rw (c.remove_ending.ensures, c.pass.ensures) (ended-parts s.plan s.arrivals.now s.next s.workers s.time s.own_look s.steps s.queue.items s.running.items s.idle.items (history_of s) c.requires.pool c.args.at c.requires.due)

pub returns-clause-less : goal.returns-clause-less
returns-clause-less c = let s = c.args.self.now in ended-left s.plan s.arrivals.now s.next s.workers s.time s.own_look s.steps s.queue.items s.running.items s.idle.items (history_of s) c.requires.pool c.args.at c.requires.due
