use Rattle.std.specs.List.{IsFirstMaxByKey}
use Rattle.resil_stats.proofs.columns.peak_of.Given as goal

-- the first of the levels so far at which the most jobs run
abbrev pub invariant-loop-index : goal.invariant-loop-index
invariant-loop-index l = IsFirstMaxByKey (λ level. level.running) l.levels l.index l.peak
