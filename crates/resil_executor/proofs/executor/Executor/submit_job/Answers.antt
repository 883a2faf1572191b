-- What the turn leaves, and what is known after it.
use Rattle.std.proofs.Common.{◌∙◌, ◌<◌, ◌≤◌, subst, rules}
use Rattle.std.proofs.lemmas.Result.{IfOk-weaker, IfErr-weaker}
use Rattle.resil_executor.proofs.SeatLaws as seats
use Rattle.resil_executor.proofs.executor.Executor.submit_job.Goals as goal

pub submit-answer-requires : goal.submit-answer-requires
submit-answer-requires g c =
    let home = seats.out_of_block g.H.Record.capacity (c.deref_mut.ensures.value ∙ c.state.view_is) c.take-state.ensures.home in
    record { known = home.0.counts; room = home.1.room; count = seats.few-accepted _ _ _ _ _ _ _ home.0 home.1 }

pub release-requires-clause-home : goal.release-requires-clause-home
release-requires-clause-home g c = seats.back_home g.H.Record.capacity (c.deref_mut.ensures.value ∙ c.state.view_is) c.submit-answer.new.self c.take-state.ensures.home (search (rules, seats.submit-steps _ _ _ _ _ c.submit-answer.ensures.accepted c.submit-answer.ensures.refused)) c.submit-answer.ensures.keeps c.submit-answer.ensures.capacity

pub release-requires-clause-fits : goal.release-requires-clause-fits
release-requires-clause-fits g c = seats.fits-visit _ _ c.submit-answer.new.self.rule _ c.take-state.ensures.fits c.submit-answer.ensures.visit

pub returns : goal.returns
returns g c =
    let turn = seats.turned c.args.visitor.now.seat.me.0 c.take-state.new.seat.me.0 c.release.new.seat.me.0 c.submit-answer.new.self (c.deref_mut.ensures.value ∙ c.state.view_is) c.take-state.ensures.home.0 c.take-state.ensures.key c.requires.mine.1 c.take-state.ensures.begins c.take-state.ensures.own c.release.ensures.seen c.take-state.ensures.view in
    let made = seats.made-new turn (seats.submit-steps _ _ _ _ _ c.submit-answer.ensures.accepted c.submit-answer.ensures.refused) in record {
      mine = search rules;
      accepted = IfOk-weaker c.submit-answer.result _ _ (λ r. seats.accepted-sees turn r.0 r.1 c.args.work) c.submit-answer.ensures.accepted;
      refused = IfErr-weaker c.submit-answer.result _ _ (λ e. seats.refusal-sees turn e.0) c.submit-answer.ensures.refused;
      memory = IfErr-weaker c.submit-answer.result _ _ (λ e lacks is. ((lacks is).0, subst (λ n. n < 18446744073709551615) made (lacks is).1)) c.submit-answer.ensures.memory;
      counted = subst (λ n. n ≤ 18446744073709551615) made c.submit-answer.ensures.counted;
      own = c.submit-answer.ensures.own;
      acceptance = c.submit-answer.ensures.acceptance;
      work_back = c.submit-answer.ensures.work_back;
    }
