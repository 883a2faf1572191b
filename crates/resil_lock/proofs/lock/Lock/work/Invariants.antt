-- The rounds so far.
use Rattle.std.proofs.Common.{ℕ}
use Rattle.resil_lock.specs.Work.{AfterRounds}
use Rattle.resil_lock.proofs.lock.Lock.work.Given as goal

abbrev pub invariant-loop : goal.invariant-loop
invariant-loop g l = record {
  iterator : (goal.iterator-loop g).can_next l.iterator' × (goal.iterator-loop g).is_finite l.iterator';
  can : g.W.Rounds.CanGo l.worker;
  gone : (rounds : ℕ) × AfterRounds g.W.Rounds.HasGone rounds l.initial.worker l.worker;
}
