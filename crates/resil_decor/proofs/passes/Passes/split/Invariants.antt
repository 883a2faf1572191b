use Rattle.std.proofs.Common.{◌≡◌, ◌≤◌, length, map, take, vec_len, vec_capacity}
use Rattle.resil_decor.specs.Passes.{sources_of, AreSplitFrom}
use Rattle.resil_decor.proofs.passes.Passes.split.Given as goal

abbrev pub invariant-loop-index : goal.invariant-loop-index
invariant-loop-index g l = record {
  unchanged : l.self-inside.passes.items ≡ l.fn.self;
  split : AreSplitFrom (take l.index l.fn.self) l.passes.items;
  room : length l.fn.self ≤ vec_capacity l.passes;
  as_many : vec_len l.passes ≡ l.index;
  sources : sources_of l.self-inside.passes.items ≡ map (λ b. b.permits) l.self-inside.bulkheads.now;
}
