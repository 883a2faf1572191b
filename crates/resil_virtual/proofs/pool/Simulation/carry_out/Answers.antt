use Rattle.resil_virtual.proofs.Words.{◌≡◌, ◌∙◌, ◌<◌, ◌+◌, ◌∷◌, [], ◌++◌, sym, subst, TimedJdkEvent, end_at}
use Rattle.resil_virtual.specs.Pool.{HasParts, history_of, left, left_in}
use Rattle.resil_virtual.proofs.PoolLaws.{else-end}
use Rattle.resil_virtual.proofs.pool.Simulation.carry_out.Goals as goal

pub end-requires : goal.end-requires
end-requires c =
    let s = c.args.self.now in
    record {
      pool = c.requires.pool;
      due = else-end s.plan s.arrivals.now s.next s.workers s.time s.own_look s.steps s.queue.items s.running.items s.idle.items (history_of s) c.requires.pool c.args.timed c.requires.due c.in_default.not-Submit c.in_default.not-Take c.in_default.not-Finish;
    }

pub returns-in_default : goal.returns-in_default
returns-in_default c =
    let s = c.args.self.now in
    let due = else-end s.plan s.arrivals.now s.next s.workers s.time s.own_look s.steps s.queue.items s.running.items s.idle.items (history_of s) c.requires.pool c.args.timed c.requires.due c.in_default.not-Submit c.in_default.not-Take c.in_default.not-Finish in
    let same : end_at c.args.timed.at ≡ c.args.timed = cc (sym due ∙ c.requires.due) in
    let new = c.end.new.self in
    record {
      pool = subst (λ (t : TimedJdkEvent). HasParts new (s.steps + 1) (history_of s ++ t ∷ [])) same c.end.ensures.pool;
      less = subst (λ (t : TimedJdkEvent). left new.plan new.arrivals.now new.next (history_of s ++ t ∷ []) < left_in s) same c.end.ensures.less;
      load = c.end.ensures.load;
    }
