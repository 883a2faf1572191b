-- A run that is accepted is kept, and the history has one more finish.
use Rattle.std.proofs.Common.{◌≡◌, true, false, refl, ◌∙◌, rules}
use Rattle.resil_pool.proofs.RemainingLaws.{left_by_pick, ran_on, ran_one_more, is_out, picked_out, finished_out}
use Rattle.resil_pool.proofs.draining.run_remaining.Goals as goal

pub loop-preserved : goal.loop-preserved
loop-preserved g c =
    let i = c.loop.invariant in
    let left = left_by_pick c.loop.machine c.pick.new.self _ c.in-Some-pick.ensures.picked in
    let out = c.in-Ok.ensures.out.0 refl in record {
      iterator = (tt, tt);
      order = finished_out c.pick.new.self _ _ _ (picked_out c.loop.machine c.pick.new.self _ i.order c.in-Some-pick.ensures.picked) c.in-Ok.ensures.event;
      ran_on = ran_on _ c.loop.machine c.pick.new.self _ _ _ i.ran_on c.in-Some-pick.ensures.picked c.in-Ok.ensures.event;
      ran = (_, ran_one_more g.P.Permitter.AnsweredBetween _ _ _ _ _ _ _ _ _ _ _ g.met.P.Permitter.append_between i.ran.1 left out.0 out.1 c.in-Ok.ensures.event (search rules));
      held = λ id. c.run-run.ensures.held id ∙ i.held id;
    }

pub unreachable-requires : goal.unreachable-requires
unreachable-requires g c =
    let no : false ≡ true = c.in-Err.ensures.out.1 (is_out _ _ (picked_out c.loop.machine c.pick.new.self _ c.loop.invariant.order c.in-Some-pick.ensures.picked), search rules) in cc
