-- Each try before the last was refused, and some of the time was left after it.
use Rattle.std.proofs.Common.{◌≡◌}
use Rattle.std.specs.Duration.{as_nanos}
use Rattle.resil_clock.specs.Waits.{HasWaitedUntil}
use Rattle.resil_permit.specs.Passes.{held_by, retired_by, IsSamePass}
use Rattle.resil_permit.specs.Waits.{IsRefusedTry}
use Rattle.resil_permit.proofs.permits.Permits.acquire_until.Given as goal

abbrev pub invariant-loop : goal.invariant-loop
invariant-loop g l = record {
  iterator : (goal.iterator-loop g).can_next l.iterator' × (goal.iterator-loop g).is_finite l.iterator';
  start : l.time.start ≡ l.initial.time.start;
  longest : l.time.longest ≡ l.initial.time.longest;
  waited : HasWaitedUntil (g.R.Reads.HasSaid l.rt) (as_nanos l.initial.time.longest) l.initial.time.start IsRefusedTry l.initial.pass l.pass l.time.last;
  same : IsSamePass l.initial.pass l.pass;
  held : held_by l.pass ≡ held_by l.initial.pass;
  retired : retired_by l.pass ≡ retired_by l.initial.pass;
}
