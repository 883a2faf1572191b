use Rattle.resil_replay.specs.declared.layout.Layout.TheVariants.{Untimed}
use Rattle.resil_replay.proofs.VersionLaws.{audit-headless, audit-timed}
use Rattle.resil_replay.proofs.events.read_rows.Goals as goal

pub returns-in-Some-Timed : goal.returns-in-Some-Timed
returns-in-Some-Timed c =
    let same = rw c.in-Some-Timed.field-0-is at c.in-Some-Timed.ensures.some in
    audit-timed c.args.body.now c.in_ok-opened.opened c.in_ok-opened.ensures.opened same

pub returns-in-None : goal.returns-in-None
returns-in-None c = audit-headless c.args.body.now c.in_ok-opened.opened c.in_ok-opened.ensures.opened (λ version. c.in-None.ensures.none (Untimed version))
