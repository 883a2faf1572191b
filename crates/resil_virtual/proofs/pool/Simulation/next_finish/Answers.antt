use Rattle.resil_virtual.proofs.Words.{Some, None, history_of}
use Rattle.resil_virtual.proofs.RunningLaws.{first-running}
use Rattle.resil_virtual.proofs.pool.Simulation.next_finish.Goals as goal

pub returns-in-Some : goal.returns-in-Some
returns-in-Some c = let s = c.args.self.now in rw c.id.ensures (first-running s.arrivals.now s.steps s.running.items (history_of s) c.requires.jobs_are (Some c.in-Some.job) c.in-Some.ensures)

pub returns-in-None : goal.returns-in-None
returns-in-None c = let s = c.args.self.now in first-running s.arrivals.now s.steps s.running.items (history_of s) c.requires.jobs_are None c.in-None.ensures
