use Rattle.resil_virtual.proofs.Words.{◌≡◌, ◌++◌, drop, map, take, passed}
use Rattle.resil_virtual.proofs.idle.pass.Given as goal

-- those so far have been passed
abbrev pub invariant-loop-place : goal.invariant-loop-place
invariant-loop-place l = l.idle.items ≡ map (passed l.none_waits l.at) (take l.place l.fn.idle.items) ++ drop l.place l.fn.idle.items
