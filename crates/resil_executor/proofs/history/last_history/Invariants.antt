-- The events that were copied so far.
use Rattle.std.proofs.Common.{◌≡◌, take}
use Rattle.resil_executor.proofs.history.last_history.Given as goal

abbrev pub invariant-loop-index : goal.invariant-loop-index
invariant-loop-index l = l.events.items ≡ take l.index l.last.events
