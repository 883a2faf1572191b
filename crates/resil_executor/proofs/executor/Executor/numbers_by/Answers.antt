-- What the turn leaves, and what is known after it.
use Rattle.std.proofs.Common.{◌∙◌, arith, rules}
use Rattle.resil_executor.proofs.KeptLaws.{keeps-quiet}
use Rattle.resil_executor.proofs.SeatLaws as seats
use Rattle.resil_executor.proofs.executor.Executor.numbers_by.Goals as goal

pub numbers-numbers-requires : goal.numbers-numbers-requires
numbers-numbers-requires g c =
    let home = seats.out_of_block g.H.Record.capacity (c.deref_mut.ensures.value ∙ c.state.view_is) c.take-state.ensures.home in
    record { count = seats.few-accepted _ _ _ _ _ _ _ home.0 home.1; jobs = (let jobs = home.1.jobs in omega (arith, jobs)) }

pub returns : goal.returns
returns g c =
    let turn = seats.turned c.args.visitor.now.seat.me.0 c.take-state.new.seat.me.0 c.release.new.seat.me.0 c.numbers-numbers.new.self (c.deref_mut.ensures.value ∙ c.state.view_is) c.take-state.ensures.home.0 c.take-state.ensures.key c.requires.mine.1 c.take-state.ensures.begins c.take-state.ensures.own c.release.ensures.seen c.take-state.ensures.view in
    let home = seats.out_of_block g.H.Record.capacity (c.deref_mut.ensures.value ∙ c.state.view_is) c.take-state.ensures.home in
    let told = c.numbers-numbers.ensures in
    let kept = keeps-quiet _ _ _ c.deref_mut.result.now.rule c.numbers-numbers.new.self.rule c.numbers-numbers.new.self.last c.deref_mut.result.now.accepted c.numbers-numbers.new.self.accepted c.deref_mut.result.now.kept c.numbers-numbers.new.self.kept told.none.none told.same home.1 in record {
      mine = search rules;
      sees = search (rules, seats.more-sees turn told.none);
      one_turn = search (rules, turn.turned);
      numbers = search (rules, seats.numbers-are turn _ _ c.numbers-numbers.new.self.accepted c.numbers-numbers.new.self.kept kept told.none c.numbers-numbers.result told.workers told.running told.waiting told.room told.sizes told.accepted told.refused told.finished told.closed);
    }
