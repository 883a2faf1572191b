use Rattle.std.proofs.Common.{◌≡◌, Some, rules}
use Rattle.resil_input.specs.Framing.{parts_of}
use Rattle.resil_driver.proofs.run.text.Goals as goal

pub returns : goal.returns
returns g c =
    let parts : parts_of c.args.input.now ≡ Some (c.in_ok-head.head.now, c.in_ok-head.body.now) = search rules in
    c.text_for.ensures c.args.input.now (c.in_ok-head.head.now, parts, c.in_ok-head-2.ensures.answer)
