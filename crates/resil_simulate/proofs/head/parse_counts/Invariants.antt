use Rattle.resil_simulate.proofs.Words.{◌≡◌, drop, view, each, parse_count, listed, after}
use Rattle.resil_simulate.proofs.head.parse_counts.Given as goal

-- the numbers so far, and those of the items left, are those of the value
abbrev pub invariant-loop-item : goal.invariant-loop-item
invariant-loop-item l = after l.counts.items (each (λ v. parse_count (view v)) (drop l.item-index l.item-items)) ≡ each parse_count (listed (view l.fn.value))
