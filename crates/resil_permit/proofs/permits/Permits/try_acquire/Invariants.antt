-- Tries that were contended let the pass see more, and nothing else.
use Rattle.std.proofs.Common.{◌≡◌}
use mathlib.Core.List.{IsPrefix}
use Rattle.resil_permit.specs.History.{events_of_seat}
use Rattle.resil_permit.proofs.permits.Permits.try_acquire.Given as goal

abbrev pub invariant-loop : goal.invariant-loop
invariant-loop g l = record {
  iterator : (goal.iterator-loop g).can_next l.iterator' × (goal.iterator-loop g).is_finite l.iterator';
  source : l.pass.source ≡ l.initial.pass.source;
  number : l.pass.number ≡ l.initial.pass.number;
  begins : IsPrefix l.initial.pass.seen l.pass.seen;
  same_own : events_of_seat l.initial.pass.number l.pass.seen ≡ events_of_seat l.initial.pass.number l.initial.pass.seen;
}
