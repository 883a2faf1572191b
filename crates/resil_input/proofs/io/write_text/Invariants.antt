use Rattle.std.proofs.Common.{◌≡◌, ◌≤◌, ◌-◌, length, take}
use Rattle.std.specs.Io.KnownBytes.{Appends}
use Rattle.resil_input.proofs.io.write_text.Given as goal

abbrev pub invariant-loop-written : goal.invariant-loop-written
invariant-loop-written g l = record {
  within : l.written ≤ length l.text;
  front : Appends (g.W.OutputWriter.contents l.fn.writer) (g.W.OutputWriter.contents l.writer) (take l.written l.text);
  same : g.W.OutputWriter.has_failed l.writer ≡ g.W.OutputWriter.has_failed l.fn.writer;
}

abbrev pub decreases-loop-written : goal.decreases-loop-written
decreases-loop-written g l = length l.text - l.written
