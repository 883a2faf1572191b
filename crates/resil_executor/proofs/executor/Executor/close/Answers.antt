-- What the turn leaves, and what is known after it.
use Rattle.std.proofs.Common.{◌∙◌, rules}
use Rattle.std.proofs.lemmas.Bool.{OnTrue_at, OnTrue_from, OnFalse_at, OnFalse_from}
use Rattle.resil_rule.specs.declared.event.Event.TheVariants as event
use Rattle.resil_executor.proofs.SeatLaws as seats
use Rattle.resil_executor.proofs.executor.Executor.close.Goals as goal

pub release-requires-clause-home : goal.release-requires-clause-home
release-requires-clause-home g c = seats.back_home g.H.Record.capacity (c.deref_mut.ensures.value ∙ c.state.view_is) c.close-closes.new.self c.take-state.ensures.home (seats.bool-steps _ _ _ _ event.Close _ c.close-closes.ensures.closed c.close-closes.ensures.was_closed) c.close-closes.ensures.keeps c.close-closes.ensures.capacity

pub release-requires-clause-fits : goal.release-requires-clause-fits
release-requires-clause-fits g c = seats.fits-plain _ _ c.close-closes.new.self.rule _ (λ e. absurd (cc (c.take-state.ensures.rank ∙ c.args.closer.now.rank, e))) c.take-state.ensures.fits c.close-closes.ensures.plain

pub returns : goal.returns
returns g c =
    let turn = seats.turned c.args.closer.now.seat.me.0 c.take-state.new.seat.me.0 c.release.new.seat.me.0 c.close-closes.new.self (c.deref_mut.ensures.value ∙ c.state.view_is) c.take-state.ensures.home.0 c.take-state.ensures.key c.requires.mine.1 c.take-state.ensures.begins c.take-state.ensures.own c.release.ensures.seen c.take-state.ensures.view in record {
      mine = search rules;
      made = turn.made;
      closed = OnTrue_from _ _ (λ is. seats.last-sees turn event.Close (OnTrue_at (search (rules, is)) c.close-closes.ensures.closed));
      was_closed = OnFalse_from _ _ (λ is. seats.closed-sees turn (OnFalse_at (search (rules, is)) c.close-closes.ensures.was_closed));
    }
