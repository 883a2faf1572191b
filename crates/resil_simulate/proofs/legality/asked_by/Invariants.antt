use Rattle.resil_simulate.proofs.Words.{◌≤◌, [], take, Sizes, AreEnough, AreTallied, IsAsked}
use Rattle.resil_jdk.specs.Admission.{IsLegal}
use Rattle.resil_jdk.specs.Limits.{AreJdkLimits}
use Rattle.resil_simulate.proofs.legality.asked_by.Given as goal

-- the sizes that the events so far need; any pool that has all these events has them
abbrev pub invariant-loop-event : goal.invariant-loop-event
invariant-loop-event l = record {
  tally : AreTallied (take l.event-index l.events) l.tally;
  some : 1 ≤ l.most.max;
  most : IsAsked [] (take l.event-index l.events) l.most;
  least : (limits : Sizes) → AreJdkLimits limits → IsLegal limits l.events → AreEnough l.most limits;
}
