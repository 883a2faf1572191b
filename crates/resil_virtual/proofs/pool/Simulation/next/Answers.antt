use Rattle.resil_virtual.proofs.Words.{◌<◌, ◌+◌, ℕ, List, sym, ap, length, subst, arith, TimedJdkEvent, history_after}
use Rattle.resil_virtual.specs.Pool.{HasParts, history_of, left, left_in}
use Rattle.resil_virtual.proofs.FinalLaws.{simulated, told}
use Rattle.resil_virtual.proofs.pool.Simulation.next.Goals as goal

pub returns-in_default-clause-end : goal.returns-in_default-clause-end
returns-in_default-clause-end c = let s = c.args.self.now in simulated s.plan s.arrivals.now s.next (history_of s) c.requires.parts.sound (sym c.in_default.ensures)

pub returns-clause-event : goal.returns-clause-event
returns-clause-event c =
    let s = c.args.self.now in let new = c.carry_out.new.self in let load = c.in_ok-carry_out.ensures.load in
    told s.plan new.plan s.arrivals.now new.arrivals.now s.steps new.steps c.in-Some.timed load.0 load.1 load.2 (sym c.in-Some.ensures)

pub returns-clause-less : goal.returns-clause-less
returns-clause-less c =
    let s = c.args.self.now in let new = c.carry_out.new.self in let load = c.in_ok-carry_out.ensures.load in
    let event = told s.plan new.plan s.arrivals.now new.arrivals.now s.steps new.steps c.in-Some.timed load.0 load.1 load.2 (sym c.in-Some.ensures) in
    subst (λ (h : List TimedJdkEvent). left new.plan new.arrivals.now new.next h < left_in s) (sym event) c.in_ok-carry_out.ensures.less

pub returns-clause-pool : goal.returns-clause-pool
returns-clause-pool c =
    let s = c.args.self.now in let new = c.carry_out.new.self in let load = c.in_ok-carry_out.ensures.load in
    let event = told s.plan new.plan s.arrivals.now new.arrivals.now s.steps new.steps c.in-Some.timed load.0 load.1 load.2 (sym c.in-Some.ensures) in
    let less = subst (λ (h : List TimedJdkEvent). left new.plan new.arrivals.now new.next h < left_in s) (sym event) c.in_ok-carry_out.ensures.less in
    let long = ap length load.1 in let was = c.requires.counted in
    record {
      parts = subst (λ (n : ℕ). HasParts new (n + 1) (history_after new.plan new.arrivals.now (new.steps + 1))) (sym load.2) (subst (HasParts new (s.steps + 1)) (sym event) c.in_ok-carry_out.ensures.pool);
      counted = omega (arith, less, long, load.2, was);
    }
