-- The events so far are those of the rows so far.
use Rattle.std.proofs.Common.{take}
use Rattle.resil_pool.specs.Hold.{AreRows}
use Rattle.resil_pool.proofs.hold.are_rows.Given as goal

abbrev pub invariant-loop-place : goal.invariant-loop-place
invariant-loop-place l = AreRows (take l.place l.rows) (take l.place l.events)
