use Rattle.resil_simulate.proofs.Words.{◌-◌, ◌<◌, ◌≤◌, length, take, IsLegalSomewhere}
use Rattle.resil_simulate.proofs.legality.first_illegal.Given as goal

-- the history is legal somewhere up to one event, and nowhere up to a later one
abbrev pub invariant-loop-legal : goal.invariant-loop-legal
invariant-loop-legal l = record {
  order : (l.legal < l.illegal) × (l.illegal ≤ length l.events);
  before : IsLegalSomewhere (take l.legal l.events);
  here : ¬ IsLegalSomewhere (take l.illegal l.events);
}

abbrev pub decreases-loop-legal : goal.decreases-loop-legal
decreases-loop-legal l = l.illegal - l.legal
