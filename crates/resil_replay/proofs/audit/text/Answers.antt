use Rattle.std.proofs.Common.{◌≡◌, Some, rules}
use Rattle.resil_input.specs.Framing.{parts_of}
use Rattle.resil_replay.proofs.audit.text.Goals as goal

pub returns : goal.returns
returns c =
    let parts : parts_of c.args.input.now ≡ Some (c.in_ok-head.head.now, c.in_ok-head.body.now) = search rules in (
      c.in_ok-limits.limits,
      c.in_ok-head.body.now,
      c.in_ok-history.history.items,
      c.in-Ok.verdict,
      (c.in_ok-head.head.now, parts, c.in_ok-limits.ensures.answer),
      c.in_ok-history.ensures,
      rw c.deref.ensures.value at c.in-Ok.ensures.verdict,
      c.in_ok-verdict_text.ensures,
    )
