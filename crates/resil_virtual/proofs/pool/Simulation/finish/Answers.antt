use Rattle.resil_virtual.proofs.Words.{◌∙◌, ◌∷◌, [], ◌++◌, List, ap, fallen, history_of, Idle}
use Rattle.resil_virtual.proofs.PoolLaws.{busy-is, fallen-is, finish-fits, finished-left, finished-parts, none-is}
use Rattle.resil_virtual.proofs.pool.Simulation.finish.Goals.{then-none_waits+in_ok-push, else-none_waits}
use Rattle.resil_virtual.proofs.pool.Simulation.finish.Goals as goal

pub end_from-end-requires-clause-fits : goal.end_from-end-requires-clause-fits
end_from-end-requires-clause-fits c = let s = c.args.self.now in finish-fits s.plan s.arrivals.now s.next s.workers s.time s.own_look s.steps s.queue.items s.running.items s.idle.items (history_of s) c.requires.pool c.args.id c.args.at c.requires.due

pub returns-clause-pool : goal.returns-clause-pool
returns-clause-pool c =
    let s = c.args.self.now in
    let none = c.no_job_waits-none_waits.ensures ∙ none-is s.plan s.arrivals.now s.next s.workers s.time s.own_look s.steps s.queue.items s.running.items s.idle.items (history_of s) c.requires.pool in
    elim c.if-none_waits.branch [
      | then-none_waits+in_ok-push w ↦ (
          let same = w.in_ok-push.ensures ∙ ap (λ (idle : List Idle). idle ++ fallen c.end_from-end.result ∷ []) c.pass.ensures
          ∙ fallen-is s.plan s.arrivals.now s.next s.workers s.time s.own_look s.steps s.queue.items s.running.items s.idle.items (history_of s) c.requires.pool c.args.id c.args.at c.no_job_waits-none_waits.result c.end_from-end.result none w.if-none_waits.true c.end_from-end.ensures in
          rw w.self-is (finished-parts s.plan s.arrivals.now s.next s.workers s.time s.own_look s.steps s.queue.items s.running.items s.idle.items (history_of s) c.requires.pool c.args.id c.args.at c.requires.due c.remove_first.result _ c.remove_first.ensures.first c.remove_first.ensures.rest _ same))
      | else-none_waits w ↦ (
          let same = c.pass.ensures ∙ busy-is s.plan s.arrivals.now s.next s.workers s.time s.own_look s.steps s.queue.items s.running.items s.idle.items (history_of s) c.requires.pool c.args.id c.args.at c.no_job_waits-none_waits.result none w.if-none_waits.false in
          rw w.self-is (finished-parts s.plan s.arrivals.now s.next s.workers s.time s.own_look s.steps s.queue.items s.running.items s.idle.items (history_of s) c.requires.pool c.args.id c.args.at c.requires.due c.remove_first.result _ c.remove_first.ensures.first c.remove_first.ensures.rest _ same))
    ]

pub returns-clause-less : goal.returns-clause-less
returns-clause-less c =
    let s = c.args.self.now in
    elim c.if-none_waits.branch [
      | then-none_waits+in_ok-push w ↦ rw w.self-is (finished-left s.plan s.arrivals.now s.next s.workers s.time s.own_look s.steps s.queue.items s.running.items s.idle.items (history_of s) c.requires.pool c.args.id c.args.at c.requires.due)
      | else-none_waits w ↦ rw w.self-is (finished-left s.plan s.arrivals.now s.next s.workers s.time s.own_look s.steps s.queue.items s.running.items s.idle.items (history_of s) c.requires.pool c.args.id c.args.at c.requires.due)
    ]
