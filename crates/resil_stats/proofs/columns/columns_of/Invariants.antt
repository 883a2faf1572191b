use Rattle.std.proofs.Common.{◌≤◌, ◌-◌, option_map}
use Rattle.resil_stats.specs.Columns.{AreColumnsFrom}
use Rattle.resil_stats.proofs.columns.columns_of.Given as goal

-- the columns so far are those of the events before `done`
abbrev pub invariant-loop-done : goal.invariant-loop-done
invariant-loop-done l = record {
  begun : l.window.before ≤ l.done;
  within : l.done ≤ l.window.end;
  columns : AreColumnsFrom l.events l.levels (option_map (λ times. times.now) l.times) l.window l.window.before l.done l.columns.items;
}

abbrev pub decreases-loop-done : goal.decreases-loop-done
decreases-loop-done l = l.initial.window.end - l.done
