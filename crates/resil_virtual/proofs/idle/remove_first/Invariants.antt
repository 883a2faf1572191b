use Rattle.resil_virtual.proofs.Words.{◌≡◌, ◌++◌, drop, take, list_any, without_first, is_free}
use Rattle.resil_virtual.proofs.idle.remove_first.Given as goal

-- none of those so far is free
abbrev pub invariant-loop-place : goal.invariant-loop-place
invariant-loop-place l = record {
  same : l.idle.items ≡ l.fn.idle.items;
  found : list_any (is_free l.by_look l.at) l.fn.idle.items ≡ list_any (is_free l.by_look l.at) (drop l.place l.fn.idle.items);
  first : without_first (is_free l.by_look l.at) l.fn.idle.items ≡ take l.place l.fn.idle.items ++ without_first (is_free l.by_look l.at) (drop l.place l.fn.idle.items);
}
