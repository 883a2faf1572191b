-- What the turn leaves, and what is known after it.
use Rattle.std.proofs.Common.{◌∙◌, subst, sym}
use Rattle.resil_rule.specs.declared.event.Event.TheVariants as event
use Rattle.resil_executor.specs.Turn.{IsDue}
use Rattle.resil_executor.proofs.SeatLaws as seats
use Rattle.resil_executor.proofs.executor.Executor.finish.Goals as goal

pub finish-requires : goal.finish-requires
finish-requires g c =
    let home = seats.out_of_block g.H.Record.capacity (c.deref_mut.ensures.value ∙ c.state.view_is) c.take-state.ensures.home in
    let ran = c.requires.ran in
    record { ran = (ran.0, ran.1, ran.2, ran.3); out = seats.due-out _ _ _ _ _ home.0 c.take-state.ensures.covered (subst (λ (xs : _). IsDue c.args.ran.slot.id xs) (sym c.take-state.ensures.own) c.requires.due); room = home.1.room }

pub release-requires-clause-home : goal.release-requires-clause-home
release-requires-clause-home g c = seats.back_home g.H.Record.capacity (c.deref_mut.ensures.value ∙ c.state.view_is) c.finish.new.self c.take-state.ensures.home c.finish.ensures.writes.steps c.finish.ensures.keeps c.finish.ensures.capacity

pub release-requires-clause-fits : goal.release-requires-clause-fits
release-requires-clause-fits g c =
    seats.finish-fits _ _ _ _ _ _ (c.take-state.ensures.rank ∙ c.args.worker.now.rank) (subst (λ (xs : _). IsDue c.args.ran.slot.id xs) (sym c.take-state.ensures.own) c.requires.due) c.finish.ensures.writes c.take-state.ensures.fits

pub returns-clause-ended : goal.returns-clause-ended
returns-clause-ended g c =
    let turn = seats.turned c.args.worker.now.seat.me.0 c.take-state.new.seat.me.0 c.release.new.seat.me.0 c.finish.new.self (c.deref_mut.ensures.value ∙ c.state.view_is) c.take-state.ensures.home.0 c.take-state.ensures.key c.requires.mine.1 c.take-state.ensures.begins c.take-state.ensures.own c.release.ensures.seen c.take-state.ensures.view in
    seats.last-sees turn (event.Finish c.args.ran.slot.id) c.finish.ensures.writes
