use Rattle.std.proofs.Common.{◌≡◌}
use Rattle.std.specs.Io.KnownBytes.{Keeps}
use Rattle.resil_input.proofs.io.FailureTrackingInputReader.read.Given as goal

abbrev pub invariant-loop-turn : goal.invariant-loop-turn
invariant-loop-turn g l = record {
  kept : Keeps (g.R.Read.remaining l.fn.self.inner) (g.R.Read.remaining l.self.inner);
  same : l.self.failed ≡ l.fn.self.failed;
}
