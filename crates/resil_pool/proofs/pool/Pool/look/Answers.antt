-- The turn of a poll.
use Rattle.std.proofs.Common.{List, map, sym, ap, ◌∙◌, subst, rules}
use Rattle.resil_pool.specs.Words.{Sizes, Event}
use Rattle.resil_pool.specs.Lock.{plan_entry}
use Rattle.resil_pool.specs.Worker.{IsAtEnd}
use Rattle.resil_pool.proofs.RemainingLaws.{left_by_pick}
use Rattle.resil_pool.proofs.TurnLaws.{acted, gives, turned, ends-none, home-now, took-turn}
use Rattle.resil_pool.proofs.WorkerLaws.{look-quiet, on_found, on_nothing, on_over, took-most, took-none, picked-one, picked-none, ended-none}
use Rattle.resil_pool.proofs.pool.Pool.look.Goals as goal

pub release_after-requires : goal.release_after-requires
release_after-requires g c =
    let l = c.look-look.ensures in
    let quiet = look-quiet _ _ c.look-look.result _ l.picks l.rests in
    gives (search rules) (acted c.args.seat.now.me c.look-look.new.self (c.deref_mut.ensures.value ∙ c.state.view_is) c.take-state.ensures l.wrote (λ fits. ends-none _ _ fits quiet.may quiet.ends))

pub returns : goal.returns
returns g c =
    let l = c.look-look.ensures in
    let look = c.look-look.result in
    let quiet = look-quiet c.args.seat.now.me.0.key.callers c.args.seat.now.me.0.number look _ l.picks l.rests in
    let turn = turned (acted c.args.seat.now.me c.look-look.new.self (c.deref_mut.ensures.value ∙ c.state.view_is) c.take-state.ensures l.wrote (λ fits. ends-none _ _ fits quiet.may quiet.ends)) c.release_after.ensures in
    let home = (home-now turn).home in record {
      source = c.release_after.ensures.source ∙ c.take-state.ensures.source;
      turn = took-turn turn quiet.own;
      ends_none = ended-none turn quiet;
      takes = on_found look _ _ (λ picked takes. took-most turn picked.0 takes) l.picks;
      takes_none = on_nothing look _ _ (took-none turn) l.rests;
      picks = on_found look _ _ (λ picked takes. picked-one turn picked.0 takes) l.picks;
      picks_none = on_nothing look _ _ (picked-none turn) l.rests;
      found = on_found look _ _ (λ picked f. record { jobs = c.deref_mut.result.now.machine.jobs; kept = ap (map plan_entry) (sym (left_by_pick _ c.look-look.new.self.machine picked.0 f.0).jobs) ∙ home.plans; there = f.1 }) l.found;
      left = on_over look _ _ (subst (λ (y : Sizes × List Event). IsAtEnd y.0 y.1) (λ i. (home.sized i, home.history i))) l.left;
    }
