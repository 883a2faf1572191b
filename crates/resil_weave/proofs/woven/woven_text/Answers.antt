use Rattle.std.proofs.Common.{◌≡◌, ℕ, List, IfOk, subst, rules}
use Rattle.std.proofs.lemmas.Iterator.{YieldsList-from_slice, YieldsList-from_zip}
use Rattle.std.proofs.lemmas.Iterator.Consumers.{YieldsList-end}
use Rattle.std.proofs.lemmas.List.{map_push}
use Rattle.std.specs.Iterator.Adapters.{zip_first, zip_second}
use Rattle.std.specs.Slice.Iter.{iter_rest}
use Rattle.resil_weave.proofs.WovenLaws.{pair_of, step_text-more, woven_text-end}
use Rattle.resil_weave.proofs.woven.woven_text.Goals as goal

pub loop-step-preserved : goal.loop-step-preserved
loop-step-preserved c = record {
  columns = search rules;
  text = rw (map_push pair_of c.loop-step.yielded (c.in-Some.step, c.in-Some.shown)) (step_text-more _ _ _ _ _ c.loop-step.invariant.text c.in_ok-push_step.ensures.text);
}

pub returns : goal.returns
returns c =
    let first : iter_rest (zip_first c.into_iter-step-iterator.result) ≡ c.args.steps.now = search rules in
    let second : iter_rest (zip_second c.into_iter-step-iterator.result) ≡ c.args.woven.now.shown.items = search rules in
    let pairs = YieldsList-from_zip (YieldsList-from_slice c.args.steps.now first) (YieldsList-from_slice c.args.woven.now.shown.items second) in
    let all = YieldsList-end pairs c.loop-step.yielded c.loop-step.step-iterator c.loop-step.yielded_by c.next.result c.next.new.self c.in-None.is c.next.ensures.steps in
    let text = woven_text-end c.args.steps.now c.args.woven.now.shown.items c.args.woven.now.word _ _ _ all.0 c.loop-step.invariant.text c.in_ok-push_word.ensures in
    subst (λ (l : List ℕ). IfOk c.into_text.result (λ t. t.items ≡ l)) text c.into_text.ensures
