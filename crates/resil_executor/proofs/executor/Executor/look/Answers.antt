-- What the turn leaves, and what is known after it.
use Rattle.std.proofs.Common.{◌∙◌, rules}
use Rattle.resil_executor.proofs.SeatLaws as seats
use Rattle.resil_executor.proofs.executor.Executor.look.Goals as goal

pub release_after-requires-clause-home : goal.release_after-requires-clause-home
release_after-requires-clause-home g c = seats.back_home g.H.Record.capacity (c.deref_mut.ensures.value ∙ c.state.view_is) c.look-look.new.self c.take-state.ensures.home (seats.look-steps _ _ _ _ c.look-look.ensures.found c.look-look.ensures.nothing) c.look-look.ensures.keeps c.look-look.ensures.capacity

pub release_after-requires-clause-fits : goal.release_after-requires-clause-fits
release_after-requires-clause-fits g c = seats.look-fits _ _ _ _ _ _ (c.take-state.ensures.rank ∙ c.args.worker.now.rank) c.look-look.ensures.found c.look-look.ensures.nothing c.take-state.ensures.fits

pub returns : goal.returns
returns g c =
    let turn = seats.turned c.args.worker.now.seat.me.0 c.take-state.new.seat.me.0 c.release_after.new.seat.me.0 c.look-look.new.self (c.deref_mut.ensures.value ∙ c.state.view_is) c.take-state.ensures.home.0 c.take-state.ensures.key c.requires.mine.1 c.take-state.ensures.begins c.take-state.ensures.own c.release_after.ensures.seen c.take-state.ensures.view in record {
      mine = search rules;
      found = seats.look-found turn (c.take-state.ensures.rank ∙ c.args.worker.now.rank) c.take-state.ensures.fits c.take-state.ensures.covered c.look-look.result c.look-look.ensures.found;
      nothing = seats.look-nothing turn (c.take-state.ensures.rank ∙ c.args.worker.now.rank) c.take-state.ensures.fits c.take-state.ensures.covered c.look-look.result c.look-look.ensures.nothing;
      over = seats.look-over turn (c.take-state.ensures.rank ∙ c.args.worker.now.rank) c.take-state.ensures.fits c.take-state.ensures.covered c.look-look.result c.look-look.ensures.nothing c.look-look.ensures.over;
    }
