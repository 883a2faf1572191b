use Rattle.resil_simulate.proofs.Words.{◌≡◌, List, take, arrivals_by}
use Rattle.resil_jdk.specs.declared.event.JdkEvent.{JdkEvent}
use Rattle.resil_stats.specs.Stats.{AreJdkCallersOf}
use Rattle.resil_simulate.proofs.history.arrivals_by.Given as goal

-- the jobs of the submissions so far
abbrev pub invariant-loop-job : goal.invariant-loop-job
invariant-loop-job l = (restated : List JdkEvent) → AreJdkCallersOf restated l.callers → l.arrivals.items ≡ arrivals_by l.terms restated (take l.job-index l.jobs)
