-- Random waits.
use Rattle.std.specs.Prelude.{ℕ, ◌+◌, ◌≤◌}
use Rattle.resil_layers.specs.declared.jitter.Spread.{Spread}
use Rattle.resil_layers.specs.declared.jitter.Spread.TheVariants.{Equal, Full}

-- the part of a wait that is drawn: at most the whole, and for an equal jitter at least half of it
abbrev pub IsDrawn : Spread → ℕ → ℕ → Type 0
IsDrawn Equal wait drawn = (wait ≤ drawn + drawn) × (drawn ≤ wait)
IsDrawn Full wait drawn = drawn ≤ wait
