use Rattle.std.proofs.Common.{◌≡◌, Some, rules}
use Rattle.resil_input.specs.Framing.{parts_of}
use Rattle.resil_heads.specs.CommandError.{IsError}
use Rattle.resil_weave.specs.Weave.{IsWeaveRefusal}
use Rattle.resil_input.proofs.RowLaws.{handed-on}
use Rattle.resil_weave.proofs.StepLaws.{weave-refused}
use Rattle.resil_weave.proofs.text.Goals as goal

pub returns-in_err-woven : goal.returns-in_err-woven
returns-in_err-woven c =
    let parts : parts_of c.args.input.now ≡ Some (c.in_ok-head.head.now, c.in_ok-head.body.now) = search rules in
    let stuck = rw c.deref.ensures.value at c.in_err-woven.ensures.refused in
    handed-on c.from_residual-in_err-woven.result _ (IsError (IsWeaveRefusal c.args.input.now)) _ c.from_residual-in_err-woven.ensures.1
    (weave-refused c.args.input.now c.in_ok-permits.permits c.in_ok-head.body.now c.in_ok-steps.steps.items c.in_err-woven.field-0.0 c.in_ok-permits.ensures.countable
    (c.in_ok-head.head.now, parts, c.in_ok-permits.ensures.answer) c.in_ok-steps.ensures stuck)
