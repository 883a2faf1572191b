use Rattle.std.proofs.Common.{◌∙◌, arith, subst, sym}
use Rattle.resil_virtual.specs.Pool.{arrivals_of, history_of, plan_of}
use Rattle.resil_virtual.specs.Simulated.{IsSimulated}
use Rattle.resil_simulate.specs.Command.{pool_of}
use Rattle.resil_simulate.specs.Tally.{IsTallyOf, IsTimed}
use Rattle.resil_simulate.proofs.RunLaws.{few-at-first, few-then, history-timed}
use Rattle.resil_simulate.proofs.command.run_pool.Goals as goal

pub opening_tally-requires : goal.opening_tally-requires
opening_tally-requires c = subst IsTimed c.new-simulation.ensures.history (history-timed c.new-simulation.result c.new-simulation.ensures.pool)

pub loop-tally-init : goal.loop-tally-init
loop-tally-init c =
    let new = c.new-simulation.ensures in
    record {
      pool = new.pool;
      load = (new.load.0 ∙ c.pool_of-pool.ensures, new.load.1);
      tally = subst (λ history. IsTallyOf history c.in_ok-tally.tally) (sym new.history) c.in_ok-tally.ensures;
      few = few-at-first c.new-simulation.result c.pool_of-pool.result c.args.arrivals.now new.pool new.history new.load.1;
    }

pub add-requires : goal.add-requires
add-requires c =
    let s = c.loop-tally.simulation in
    let was = c.loop-tally.invariant in
    let told = c.in_ok-timed.ensures in
    let event = rw c.in-Some.is at told.event in
    let few = was.few in
    (history_of s, was.tally, subst IsTimed event (history-timed c.next.new.self told.pool), omega (arith, few))

pub loop-tally-preserved : goal.loop-tally-preserved
loop-tally-preserved c =
    let s = c.loop-tally.simulation in
    let was = c.loop-tally.invariant in
    let told = c.in_ok-timed.ensures in
    let event = rw c.in-Some.is at told.event in
    let less = rw c.in-Some.is at told.less in
    let timed = subst IsTimed event (history-timed c.next.new.self told.pool) in
    record {
      pool = told.pool;
      load = (told.load.0 ∙ was.load.0, told.load.1 ∙ was.load.1);
      tally = subst (λ history. IsTallyOf history c.add.new.self) (sym event) (c.in_ok-add.ensures (history_of s) was.tally timed);
      few = few-then s c.next.new.self c.in-Some.timed _ event less was.few;
    }

pub numbers-requires : goal.numbers-requires
numbers-requires c = let was = c.loop-tally.invariant in (history_of c.loop-tally.simulation, was.tally, history-timed c.loop-tally.simulation was.pool)

pub returns : goal.returns
returns c =
    let s = c.loop-tally.simulation in
    let was = c.loop-tally.invariant in
    let told = c.in_ok-timed.ensures in
    let same = rw c.in_default.is at told.same in
    let end = rw c.in_default.is at told.end in
    let all = subst (λ run. IsSimulated (plan_of run) (arrivals_of run) (history_of run)) same end in
    let in_pool = subst (λ pool. IsSimulated pool (arrivals_of s) (history_of s)) was.load.0 all in
    (history_of s, subst (λ arrivals. IsSimulated (pool_of c.args.limits c.args.ways) arrivals (history_of s)) was.load.1 in_pool, c.numbers.ensures (history_of s) was.tally (history-timed s was.pool))
