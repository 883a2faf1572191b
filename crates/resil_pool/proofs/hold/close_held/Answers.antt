-- The turn of a closing.
use Rattle.std.proofs.Common.{rules, sym, ap, ◌∙◌, subst}
use Rattle.resil_rule.specs.History.{is_closed}
use Rattle.resil_pool.specs.Parts.{SeatView}
use Rattle.resil_pool.specs.Hold.{TellsOfRows}
use Rattle.resil_pool.specs.Lock.{SeesClosing, WroteCloseAtMost}
use Rattle.resil_pool.proofs.HoldLaws.{begins_after, told_of_rows}
use Rattle.resil_pool.proofs.TurnLaws.{acted-close, gives, turned, home-now, sees-closing, wrote-closing, closer-stays, same-source}
use Rattle.resil_pool.proofs.hold.close_held.Goals as goal

pub release-requires : goal.release-requires
release-requires g c =
    let k = c.close_after_rows-in_order.ensures in
    gives (search rules) (acted-close c.closer.inside.seat.me c.close_after_rows-in_order.new.self (c.deref_mut.ensures.value ∙ c.state.view_is) c.take-state.ensures k.wrote c.closer.invariant.first k.closes)

pub invariant_of-closer : goal.invariant_of-closer
invariant_of-closer g c =
    let k = c.close_after_rows-in_order.ensures in
    closer-stays (turned (acted-close c.closer.inside.seat.me c.close_after_rows-in_order.new.self (c.deref_mut.ensures.value ∙ c.state.view_is) c.take-state.ensures k.wrote c.closer.invariant.first k.closes) c.release.ensures) c.closer.invariant

pub returns : goal.returns
returns g c =
    let k = c.close_after_rows-in_order.ensures in
    let turn = turned (acted-close c.closer.inside.seat.me c.close_after_rows-in_order.new.self (c.deref_mut.ensures.value ∙ c.state.view_is) c.take-state.ensures k.wrote c.closer.invariant.first k.closes) c.release.ensures in
    let closed = ap is_closed (sym (home-now turn).home.history) ∙ k.closed in record {
      source = same-source _ _ turn (c.release.ensures.source ∙ c.take-state.ensures.source) ∙ ap (λ (x : SeatView). x.source) c.closer.view_is;
      seen = subst (λ (x : SeatView). SeesClosing x.source.limits x.seen c.release.new.seat.me.0.seen) c.closer.view_is (sees-closing turn c.closer.invariant.first k.closes);
      wrote = subst (λ (x : SeatView). WroteCloseAtMost x.wrote c.release.new.seat.me.0.own) c.closer.view_is (wrote-closing turn c.closer.invariant.first k.closes);
      closed = closed;
      begins = begins_after c.close_after_rows-in_order.result c.args.rows.now turn k.closes k.in_order closed;
      told = subst (λ (x : SeatView). TellsOfRows c.close_after_rows-in_order.result c.args.rows.now x.source.limits x.seen c.release.new.seat.me.0.seen) c.closer.view_is (told_of_rows c.close_after_rows-in_order.result c.args.rows.now turn k.closes k.in_order c.closer.invariant.first);
    }
