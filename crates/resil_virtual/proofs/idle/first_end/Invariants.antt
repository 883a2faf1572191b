use Rattle.resil_virtual.proofs.Words.{◌≡◌, take, earliest, ends_of}
use Rattle.resil_virtual.proofs.idle.first_end.Given as goal

-- the first so far
abbrev pub invariant-loop-place : goal.invariant-loop-place
invariant-loop-place l = l.first ≡ earliest (λ time. time) (ends_of (take l.place l.idle))
