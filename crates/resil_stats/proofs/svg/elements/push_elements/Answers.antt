use Rattle.std.proofs.Common.{[], append-nil, arith, refl, string_bytes, subst, sym}
use Rattle.std.proofs.lemmas.List.{take_all}
use Rattle.resil_stats.specs.Svg.{IsAddition, IsMadeOf}
use Rattle.resil_stats.proofs.SvgLaws.{made-more}
use Rattle.resil_stats.proofs.svg.elements.push_elements.Goals as goal

pub loop-element-init : goal.loop-element-init
loop-element-init g c = ([], sym (append-nil (string_bytes c.args.text.now)), refl)

pub loop-element-preserved : goal.loop-element-preserved
loop-element-preserved g c =
    made-more g.E.Element.begins c.args.elements.now c.loop-element.element-index _ _ _ _ c.loop-element-test.true c.element-item.is c.loop-element.invariant c.in_ok-push_element.ensures

pub returns : goal.returns
returns g c =
    subst (λ l. IsAddition (IsMadeOf g.E.Element.begins l) (string_bytes c.args.text.now) (string_bytes c.loop-element.text)) (take_all c.loop-element.element-index c.args.elements.now (omega arith)) c.loop-element.invariant
