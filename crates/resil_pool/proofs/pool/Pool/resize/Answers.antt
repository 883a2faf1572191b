-- The turn of a resize.
use Rattle.std.proofs.Common.{ℕ, ◌∙◌, subst, rules}
use Rattle.std.proofs.lemmas.Result.{on_ok_weaker}
use Rattle.resil_pool.specs.Parts.{CallerView}
use Rattle.resil_pool.specs.Resize.{SeesResize}
use Rattle.resil_pool.proofs.TurnLaws.{acted, gives, turned}
use Rattle.resil_pool.proofs.Submissions.{is_not_closer, caller-same, resize-may, resize-own, sees-resize}
use Rattle.resil_pool.proofs.pool.Pool.resize.Goals as goal

pub release-requires : goal.release-requires
release-requires g c =
    let a = c.resize-answer.ensures in
    gives (search rules) (acted c.caller.inside.seat.me c.resize-answer.new.self (c.deref_mut.ensures.value ∙ c.state.view_is) c.take-state.ensures a.wrote (λ fits. resize-may c.args.core c.args.max c.resize-answer.result _ a.resized a.nothing _ fits (is_not_closer _ _ _ c.caller.invariant)))

pub invariant_of-caller : goal.invariant_of-caller
invariant_of-caller g c =
    let a = c.resize-answer.ensures in
    let turn = turned (acted c.caller.inside.seat.me c.resize-answer.new.self (c.deref_mut.ensures.value ∙ c.state.view_is) c.take-state.ensures a.wrote (λ fits. resize-may c.args.core c.args.max c.resize-answer.result _ a.resized a.nothing _ fits (is_not_closer _ _ _ c.caller.invariant))) c.release.ensures in
    caller-same turn _ _ c.caller.invariant (resize-own c.args.core c.args.max c.resize-answer.result _ a.resized a.nothing c.caller.inside.seat.me.0.number)

pub returns-clause-seen : goal.returns-clause-seen
returns-clause-seen g c =
    let a = c.resize-answer.ensures in
    let turn = turned (acted c.caller.inside.seat.me c.resize-answer.new.self (c.deref_mut.ensures.value ∙ c.state.view_is) c.take-state.ensures a.wrote (λ fits. resize-may c.args.core c.args.max c.resize-answer.result _ a.resized a.nothing _ fits (is_not_closer _ _ _ c.caller.invariant))) c.release.ensures in
    let old = c.caller.inside.seat.me.0 in
    on_ok_weaker c.resize-answer.result (λ e. subst (λ (x : CallerView). SeesResize x.source.limits x.number x.seen c.args.core c.args.max c.release.new.seat.me.0.seen) c.caller.view_is (subst (λ (j : ℕ). SeesResize old.key.limits j old.seen c.args.core c.args.max c.release.new.seat.me.0.seen) c.caller.invariant.numbered (sees-resize c.args.core c.args.max turn e))) a.resized

pub returns-clause-own : goal.returns-clause-own
returns-clause-own g c = (invariant_of-caller g c).own
