-- What the turn leaves, and what is known after it.
use Rattle.std.proofs.Common.{◌∙◌, ◌+◌, rules}
use Rattle.std.proofs.lemmas.Result.{IfOk-weaker, IfErr-weaker}
use Rattle.resil_rule.specs.RuleView.{owed}
use Rattle.resil_rule.specs.declared.event.Event.TheVariants as event
use Rattle.resil_executor.proofs.SeatLaws as seats
use Rattle.resil_executor.proofs.executor.Executor.resize.Goals as goal

pub release-requires-clause-home : goal.release-requires-clause-home
release-requires-clause-home g c = seats.back_home g.H.Record.capacity (c.deref_mut.ensures.value ∙ c.state.view_is) c.resize-resized.new.self c.take-state.ensures.home (seats.result-steps _ _ _ (event.Resized c.args.core c.args.max) _ c.resize-resized.ensures.resized c.resize-resized.ensures.refused) c.resize-resized.ensures.keeps c.resize-resized.ensures.capacity

pub release-requires-clause-fits : goal.release-requires-clause-fits
release-requires-clause-fits g c = seats.fits-plain _ _ c.resize-resized.new.self.rule _ (λ e. absurd (cc (c.take-state.ensures.rank ∙ c.args.closer.now.rank, e))) c.take-state.ensures.fits c.resize-resized.ensures.plain

pub returns : goal.returns
returns g c =
    let turn = seats.turned c.args.closer.now.seat.me.0 c.take-state.new.seat.me.0 c.release.new.seat.me.0 c.resize-resized.new.self (c.deref_mut.ensures.value ∙ c.state.view_is) c.take-state.ensures.home.0 c.take-state.ensures.key c.requires.mine.1 c.take-state.ensures.begins c.take-state.ensures.own c.release.ensures.seen c.take-state.ensures.view in record {
      mine = search rules;
      resized = IfOk-weaker c.resize-resized.result _ _ (λ _. seats.last-sees turn (event.Resized c.args.core c.args.max)) c.resize-resized.ensures.resized;
      refused = IfErr-weaker c.resize-resized.result _ _ (λ _. seats.more-sees turn) c.resize-resized.ensures.refused;
      why = search rules;
      memory = IfErr-weaker c.resize-resized.result _ _ (λ e lacks is. (owed c.deref_mut.result.now.rule + 1, c.deref_mut.result.now.kept, lacks is)) c.resize-resized.ensures.memory;
    }
