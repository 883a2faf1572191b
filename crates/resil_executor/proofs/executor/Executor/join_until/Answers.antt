-- A poll in vain is one more refusal.
use Rattle.std.proofs.Common.{arith, rules, ◌∙◌}
use Rattle.resil_clock.proofs.Waits.{refused_more}
use Rattle.resil_executor.specs.Joining.{IsLookInVain}
use Rattle.resil_executor.specs.Seats.{limits_of, known_to}
use Rattle.resil_executor.proofs.LogLaws.{prefix-trans}
use Rattle.resil_executor.proofs.executor.Executor.join_until.Goals as goal

pub loop-preserved : goal.loop-preserved
loop-preserved g c =
    let in_vain : IsLookInVain (limits_of c.args.self.now) (known_to c.loop.visitor.seat) (known_to c.have_all_finished.new.visitor.seat)
    = record { look = c.have_all_finished.ensures.look; unfinished = rw c.if-have_all_finished.false at c.have_all_finished.ensures.unfinished } in
    let sees = in_vain.look.sees in record {
      iterator = search rules;
      mine = search rules;
      start = grind (arith);
      longest = grind (arith);
      waited = grind (arith, refused_more, in_vain);
      begins = prefix-trans _ _ _ c.loop.invariant.begins sees.begins;
      wrote = sees.wrote ∙ c.loop.invariant.wrote;
      turns = (let before = c.loop.invariant.turns in let more = sees.turned in omega (arith, before, more));
    }

pub returns-in_default-clause-by_the_clock : goal.returns-in_default-clause-by_the_clock
returns-in_default-clause-by_the_clock g c =
    (known_to c.loop.visitor.seat, record { last = c.loop.time.last; in_time = c.loop.invariant.waited; over = grind (arith) }, c.have_all_finished.ensures.look)
