-- The runs so far were made with the permitter, and the machine keeps them.
use Rattle.std.proofs.Common.{◌≡◌, ℕ, List}
use Rattle.resil_admission.specs.declared.row.Row.{Row}
use Rattle.resil_pool.specs.Draining.{HasRunOn, Ran}
use Rattle.resil_pool.proofs.RemainingLaws.{IsInOrder}
use Rattle.resil_pool.proofs.draining.run_remaining.Given as goal

abbrev pub invariant-loop : goal.invariant-loop
invariant-loop g l = record {
  iterator : (goal.iterator-loop g).can_next l.iterator' × (goal.iterator-loop g).is_finite l.iterator';
  order : IsInOrder l.machine;
  ran : (made : List Row) × Ran g.P.Permitter.AnsweredBetween l.initial.permitter l.initial.machine made l.permitter l.machine;
  ran_on : HasRunOn l.initial.machine l.machine;
  held : (id : ℕ) → g.P.Permitter.held l.permitter id ≡ g.P.Permitter.held l.initial.permitter id;
}
