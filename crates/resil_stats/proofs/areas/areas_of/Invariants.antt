use Rattle.std.proofs.Common.{◌≡◌, ◌+◌, ℕ, Some, length, slice_get, take}
use Rattle.resil_stats.specs.Areas.{IsRunningAfter, IsTally, begun, finished, started}
use Rattle.resil_stats.specs.Spans.{AreBegun}
use Rattle.resil_stats.specs.declared.areas.Running.{Running}
use Rattle.resil_stats.proofs.areas.areas_of.Given as goal

-- what started and what is finished so far, and how many run after each event so far
abbrev pub invariant-loop-event : goal.invariant-loop-event
invariant-loop-event l = record {
  started : IsTally (started (take l.event-index l.events)) l.started;
  finished : IsTally (finished (take l.event-index l.events)) l.finished;
  begun : AreBegun (begun (take l.event-index l.events)) l.begun;
  each : length l.areas.items ≡ l.event-index;
  after : (k : ℕ) (running : Running) → slice_get l.areas.items k ≡ Some running → IsRunningAfter (take (k + 1) l.events) running;
}
