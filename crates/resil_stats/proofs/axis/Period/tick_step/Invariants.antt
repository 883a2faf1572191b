use Rattle.std.proofs.Common.{ℕ, ◌≡◌, ◌≤◌, ◌<◌, ◌⊎◌, ◌-◌, ◌*◌, get_or}
use Rattle.std.specs.List.{Contains}
use Rattle.resil_stats.specs.Axis.{tick_steps}
use Rattle.resil_stats.proofs.axis.Period.tick_step.Given as goal

-- the widest of the steps so far
abbrev pub invariant-loop-step : goal.invariant-loop-step
invariant-loop-step l = record {
  known : (l.widest ≡ 1) ⊎ (Contains tick_steps l.widest × (4 * l.widest ≤ l.self.last - l.self.first));
  widest : (i d : ℕ) → i < l.step-index → 4 * get_or tick_steps i d ≤ l.self.last - l.self.first → get_or tick_steps i d ≤ l.widest;
}
