-- What the rounds took was run, and none of it refused.
use Rattle.std.proofs.Common.{rules, ◌≡◌, List, None, subst, sym}
use Rattle.resil_pool.specs.Words.{LoggedEvent}
use Rattle.resil_pool.specs.Parts.{SeatView}
use Rattle.resil_pool.specs.Worker.{HasRunTakes, takes_in}
use Rattle.resil_pool.specs.Lock.{runs_in}
use Rattle.resil_pool.proofs.pool.Pool.work.Goals as goal

pub returns-clause-takes : goal.returns-clause-takes
returns-clause-takes g c =
    let Between = g.P.Permitter.AnsweredBetween in
    let left = c.make_rounds.new.at_work in
    let mine = left.seat.now.me.0.own in
    let took = subst (λ (w : SeatView). HasRunTakes Between c.args.permitter.now left.permitter.now w.runs (runs_in mine) (takes_in w.wrote) (takes_in mine) None) c.worker.view_is c.make_rounds.ensures.made.took in
    subst (λ (p : _). HasRunTakes Between c.args.permitter.now p c.args.worker.runs (runs_in c.seat-2-1.given.0.me.0.own) (takes_in c.args.worker.wrote) (takes_in c.seat-2-1.given.0.me.0.own) None)
    (let back = sym c.make_rounds.ensures.made.permitter in let is : left.permitter.now ≡ c.permitter-1.given.0 = search rules in is)
    (subst (λ (xs : List LoggedEvent). HasRunTakes Between c.args.permitter.now left.permitter.now c.args.worker.runs (runs_in xs) (takes_in c.args.worker.wrote) (takes_in xs) None)
    (let back = sym c.make_rounds.ensures.made.seat in let is : mine ≡ c.seat-2-1.given.0.me.0.own = search rules in is) took)

pub returns-clause-first_refusal : goal.returns-clause-first_refusal
returns-clause-first_refusal g c = let took = returns-clause-takes g c in (took.0, took.1)
