use Rattle.resil_virtual.proofs.Words.{◌≡◌, ◌++◌, drop, take, wake_first}
use Rattle.resil_virtual.proofs.idle.wake_first.Given as goal

-- those so far were woken before
abbrev pub invariant-loop-place : goal.invariant-loop-place
invariant-loop-place l = record {
  same : l.idle.items ≡ l.fn.idle.items;
  first : wake_first l.look l.fn.idle.items ≡ take l.place l.fn.idle.items ++ wake_first l.look (drop l.place l.fn.idle.items);
}
