-- The turn of a closing shows a legal history that begins with what was seen.
use Rattle.std.proofs.Common.{rules, sym, ap, ◌∙◌, subst}
use Rattle.resil_rule.specs.History.{is_closed}
use Rattle.resil_pool.specs.Parts.{SeatView}
use Rattle.resil_pool.specs.Lock.{SeesClosing, WroteCloseAtMost}
use Rattle.resil_pool.proofs.TurnLaws.{acted-close, gives, turned, closing-more, home-now, sees-closing, wrote-closing, closer-stays, same-source}
use Rattle.resil_pool.proofs.pool.Pool.close.Goals as goal

pub release-requires : goal.release-requires
release-requires g c =
    gives (search rules) (acted-close c.closer.inside.seat.me c.close.new.self (c.deref_mut.ensures.value ∙ c.state.view_is) c.take-state.ensures c.close.ensures.wrote c.closer.invariant.first c.close.ensures.closes)

pub invariant_of-closer : goal.invariant_of-closer
invariant_of-closer g c =
    closer-stays (turned (acted-close c.closer.inside.seat.me c.close.new.self (c.deref_mut.ensures.value ∙ c.state.view_is) c.take-state.ensures c.close.ensures.wrote c.closer.invariant.first c.close.ensures.closes) c.release.ensures) c.closer.invariant

pub returns : goal.returns
returns g c =
    let k = c.close.ensures in
    let turn = turned (acted-close c.closer.inside.seat.me c.close.new.self (c.deref_mut.ensures.value ∙ c.state.view_is) c.take-state.ensures k.wrote c.closer.invariant.first k.closes) c.release.ensures in
    let seen = subst (λ (x : SeatView). SeesClosing x.source.limits x.seen c.release.new.seat.me.0.seen) c.closer.view_is (sees-closing turn c.closer.invariant.first k.closes) in
    let more = closing-more _ _ _ seen in record {
      source = same-source _ _ turn (c.release.ensures.source ∙ c.take-state.ensures.source) ∙ ap (λ (x : SeatView). x.source) c.closer.view_is;
      legal = more.0;
      begins = more.1;
      seen = seen;
      wrote = subst (λ (x : SeatView). WroteCloseAtMost x.wrote c.release.new.seat.me.0.own) c.closer.view_is (wrote-closing turn c.closer.invariant.first k.closes);
      closed = ap is_closed (sym (home-now turn).home.history) ∙ k.closed;
    }
