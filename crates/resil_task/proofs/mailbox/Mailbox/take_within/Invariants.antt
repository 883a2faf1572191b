-- The clock was read again and again, and some of the time was left each time.
use Rattle.std.proofs.Common.{◌≡◌}
use Rattle.std.specs.Duration.{as_nanos}
use Rattle.resil_clock.specs.Waits.{HasReadUntil}
use Rattle.resil_task.proofs.mailbox.Mailbox.take_within.Given as goal

abbrev pub invariant-loop : goal.invariant-loop
invariant-loop g l = record {
  iterator : (goal.iterator-loop g).can_next l.iterator' × (goal.iterator-loop g).is_finite l.iterator';
  start : l.time.start ≡ l.initial.time.start;
  longest : l.time.longest ≡ l.initial.time.longest;
  read : HasReadUntil (g.R.Reads.HasSaid l.rt) (as_nanos l.initial.time.longest) l.initial.time.start l.time.last;
}
