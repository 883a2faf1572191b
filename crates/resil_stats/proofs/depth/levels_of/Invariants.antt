use Rattle.std.proofs.Common.{◌≡◌, ◌+◌, ℕ, Some, length, slice_get, take}
use Rattle.resil_stats.specs.Depth.{IsLevelAfter}
use Rattle.resil_stats.specs.Stats.{IsJdkLoadAfter}
use Rattle.resil_stats.specs.declared.depth.Level.{Level}
use Rattle.resil_stats.proofs.DepthLaws.{AreSizesAfter}
use Rattle.resil_stats.proofs.depth.levels_of.Given as goal

-- the load and the sizes so far are those of the events so far, each of which has its level
abbrev pub invariant-loop-index : goal.invariant-loop-index
invariant-loop-index l = record {
  load : IsJdkLoadAfter (take l.index l.events) l.load;
  sizes : AreSizesAfter l.limits (take l.index l.events) l.sizes;
  each : length l.levels.items ≡ l.index;
  after : (k : ℕ) (level : Level) → slice_get l.levels.items k ≡ Some level → IsLevelAfter l.limits (take (k + 1) l.events) level;
}
