-- The permit was taken by the last try, after those that were refused.
use Rattle.std.specs.Duration.{as_nanos}
use Rattle.resil_permit.proofs.Waits.{waited_by}
use Rattle.resil_bulkhead.proofs.Visits.{held_since}
use Rattle.resil_bulkhead.proofs.bulkhead.Bulkhead.call_within.Goals as goal

pub returns-clause-executed : goal.returns-clause-executed
returns-clause-executed g c =
    let (waited, has, took) = rw c.if-not-enter_within.false at c.enter_within.ensures.tried in
    let run = c.call_and_release.ensures in
    (waited, has, (held_since (as_nanos c.args.longest) c.args.pass.now waited c.enter_within.new.pass c.call_and_release.new.pass has c.enter_within.ensures.pass run.pass took run.gave, run.answer))

pub returns-clause-by_the_clock : goal.returns-clause-by_the_clock
returns-clause-by_the_clock g c =
    let (waited, by, took) = rw c.if-not-enter_within.false at c.enter_within.ensures.by_the_clock in
    let has = waited_by _ _ _ _ _ _ by in
    let run = c.call_and_release.ensures in
    (waited, by, (held_since (as_nanos c.args.longest) c.args.pass.now waited c.enter_within.new.pass c.call_and_release.new.pass has c.enter_within.ensures.pass run.pass took run.gave, run.answer))
