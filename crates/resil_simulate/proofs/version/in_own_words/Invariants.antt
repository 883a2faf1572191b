use Rattle.std.proofs.Common.{◌≡◌, take}
use Rattle.resil_simulate.specs.Version.{in_own_words}
use Rattle.resil_simulate.proofs.version.in_own_words.Given as goal

-- the events so far
abbrev pub invariant-loop-timed : goal.invariant-loop-timed
invariant-loop-timed l = l.own.items ≡ in_own_words (take l.timed-index l.history)
