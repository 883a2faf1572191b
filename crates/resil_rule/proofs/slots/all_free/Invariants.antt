use Rattle.std.proofs.Common.{◌≡◌, ◌≤◌, ◌+◌, All, List, Option, None, length, replicate}
use Rattle.resil_rule.specs.Slots.{AreFree}
use Rattle.resil_rule.proofs.slots.all_free.Given as goal

-- the ring has the places from `left` on
abbrev pub invariant-loop-left : goal.invariant-loop-left
invariant-loop-left l = record {
  many : length l.free.items + l.left ≡ l.count;
  capacity : l.free.capacity ≡ l.count;
  later : All (λ place. l.left ≤ place) l.free.items;
  free : AreFree (replicate l.count None) l.free.items;
}

abbrev pub decreases-loop-left : goal.decreases-loop-left
decreases-loop-left l = l.left
