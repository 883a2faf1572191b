use Rattle.resil_virtual.proofs.Words.{sym, history_of}
use Rattle.resil_virtual.proofs.PoolLaws.{front-some, take-fits, taken-left, taken-parts}
use Rattle.resil_virtual.proofs.pool.Simulation.take.Goals as goal

pub run-requires : goal.run-requires
run-requires c = let s = c.args.self.now in take-fits s.plan s.arrivals.now s.next s.workers s.time s.own_look s.steps s.queue.items s.running.items s.idle.items (history_of s) c.requires.pool c.args.id c.args.at c.requires.due c.in-Some.job (sym c.in-Some.ensures)

pub returns-clause-pool : goal.returns-clause-pool
returns-clause-pool c =
    let s = c.args.self.now in
    rw (c.pop_front.ensures.rest, c.remove_taker.ensures, c.pass.ensures)
    (taken-parts s.plan s.arrivals.now s.next s.workers s.time s.own_look s.steps s.queue.items s.running.items s.idle.items (history_of s) c.requires.pool c.args.id c.args.at c.requires.due c.in-Some.job (sym c.in-Some.ensures) _ c.in_ok-run.ensures)

pub returns-clause-less : goal.returns-clause-less
returns-clause-less c = let s = c.args.self.now in taken-left s.plan s.arrivals.now s.next s.workers s.time s.own_look s.steps s.queue.items s.running.items s.idle.items (history_of s) c.requires.pool c.args.id c.args.at c.requires.due

pub returns-in_default-clause-pool : goal.returns-in_default-clause-pool
returns-in_default-clause-pool c = let s = c.args.self.now in absurd (front-some s.plan s.arrivals.now s.next s.workers s.time s.own_look s.steps s.queue.items s.running.items s.idle.items (history_of s) c.requires.pool c.args.id c.args.at c.requires.due (sym c.in_default.ensures))

pub returns-in_default-clause-less : goal.returns-in_default-clause-less
returns-in_default-clause-less c = let s = c.args.self.now in absurd (front-some s.plan s.arrivals.now s.next s.workers s.time s.own_look s.steps s.queue.items s.running.items s.idle.items (history_of s) c.requires.pool c.args.id c.args.at c.requires.due (sym c.in_default.ensures))
