-- The turn of a finish, after the run.
use Rattle.std.proofs.Common.{◌++◌, List, Some, append-nil, sym, ap, ◌∙◌, rules}
use Rattle.resil_pool.specs.Words.{PlanView, MachineView, LoggedEvent}
use Rattle.resil_pool.specs.Lock.{own_in, runs_in}
use Rattle.resil_pool.specs.Worker.{takes_in}
use Rattle.resil_pool.proofs.TurnLaws.{has-turn, acted, gives, turned, home-now, took-turn, runs-now, takes-now, tallies-now}
use Rattle.resil_pool.proofs.WorkerLaws.{known_plan, may-end}
use Rattle.resil_pool.proofs.pool.Pool.run_job.Goals as goal

pub finish-requires : goal.finish-requires
finish-requires g c =
    let took = has-turn c.args.seat.now.me (c.deref_mut.ensures.value ∙ c.state.view_is) c.take-state.ensures in record {
      out = took.out c.args.picked.0 c.requires.due;
      plan = known_plan _ _ _ _ _ took c.requires.known ∙ ap (λ (p : PlanView). Some p) (sym c.run-run.ensures.plan);
    }

pub release-requires : goal.release-requires
release-requires g c =
    let seat = c.args.seat.now.me in
    let e = c.finish.ensures in
    gives (search rules) (acted seat c.finish.new.self (c.deref_mut.ensures.value ∙ c.state.view_is) c.take-state.ensures e.wrote (λ _. may-end seat c.args.picked.0 c.run-run.result _ e.kept c.requires.due))

pub returns : goal.returns
returns g c =
    let seat = c.args.seat.now.me in
    let old = seat.0 in
    let e = c.finish.ensures in
    let turn = turned (acted seat c.finish.new.self (c.deref_mut.ensures.value ∙ c.state.view_is) c.take-state.ensures e.wrote (λ _. may-end seat c.args.picked.0 c.run-run.result _ e.kept c.requires.due)) c.release.ensures in record {
      source = c.release.ensures.source ∙ c.take-state.ensures.source;
      turn = took-turn turn (ap (own_in old.number) e.kept);
      ends = tallies-now turn _ e.kept;
      finished = (_, sym (home-now turn).home.history ∙ ap (λ (m : MachineView). m.history) e.finished);
      given = record {
        run = c.run-run.result;
        plan = c.run-run.ensures.plan;
        answered = search rules;
        ended = runs-now turn ∙ ap (λ (xs : List LoggedEvent). runs_in old.own ++ runs_in xs) e.kept;
      };
      takes_none = takes-now turn ∙ (ap (λ (xs : List LoggedEvent). takes_in old.own ++ takes_in xs) e.kept ∙ append-nil (takes_in old.own));
      held = c.run-run.ensures.held;
    }
