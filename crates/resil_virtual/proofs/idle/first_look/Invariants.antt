use Rattle.resil_virtual.proofs.Words.{◌≡◌, take, earliest, looks_of}
use Rattle.resil_virtual.proofs.idle.first_look.Given as goal

-- the first so far
abbrev pub invariant-loop-place : goal.invariant-loop-place
invariant-loop-place l = l.first ≡ earliest (λ time. time) (looks_of (take l.place l.idle))
