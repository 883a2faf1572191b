use Rattle.resil_simulate.proofs.Words.{◌≡◌, ◌-◌, take, area, running_count, to_finish}
use Rattle.resil_jdk.specs.History.{workers}
use Rattle.resil_stats.specs.Stats.{IsJdkLoadAfter}
use Rattle.resil_simulate.proofs.numbers.areas_of.Given as goal

-- the load after the events so far, and the time of jobs and workers up to the last one, and up to the last finish
abbrev pub invariant-loop-index : goal.invariant-loop-index
invariant-loop-index l = record {
  load : IsJdkLoadAfter (take l.index l.events) l.load;
  run_time : l.so_far.run_time ≡ area running_count l.events l.times (l.index - 1);
  worker_time : l.so_far.worker_time ≡ area workers l.events l.times (l.index - 1);
  finished_run : l.finished.run_time ≡ to_finish running_count l.events l.times l.index;
  finished_worker : l.finished.worker_time ≡ to_finish workers l.events l.times l.index;
}
