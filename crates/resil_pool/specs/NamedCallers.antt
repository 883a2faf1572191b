-- Each submission in a pool's history names one of its callers; and which machines keep this true.
use Rattle.std.specs.Prelude.{◌≤◌, ℕ}
use Rattle.resil_admission.specs.MachineView.{MachineView}
use Rattle.resil_pool.specs.Lock.{AllNameCallers, events_in, LockSeatState}

-- a caller's number, in a pool with this many callers
abbrev pub IsCallersNumber : ℕ → ℕ → Type 0
IsCallersNumber callers number = (1 ≤ number) × (number ≤ callers)

-- if it was true of the machine, it stays true
abbrev pub KeepsNames : ℕ → MachineView → MachineView → Type 0
KeepsNames callers old new = AllNameCallers callers old.history → AllNameCallers callers new.history

-- if it was true of the history that the holder of the turn has seen, it is true of the machine that the turn leaves
abbrev pub LeavesNames : ℕ → LockSeatState → MachineView → Type 0
LeavesNames callers me machine = AllNameCallers callers (events_in me.0.seen) → AllNameCallers callers machine.history
