use Rattle.std.proofs.Common.{◌≡◌, ◌≤◌, ◌+◌, ◌-◌, vec_len}
use Rattle.std.specs.Io.KnownBytes.{Consumes}
use Rattle.resil_input.proofs.io.read_up_to.Given as goal

abbrev pub invariant-pieces : goal.invariant-pieces
invariant-pieces g l = record {
  room : vec_len l.bytes ≤ l.limit + 1;
  took : Consumes (g.R.InputReader.remaining l.fn.reader) (g.R.InputReader.remaining l.reader) l.bytes.items;
  same : g.R.InputReader.has_failed l.reader ≡ g.R.InputReader.has_failed l.fn.reader;
}

abbrev pub decreases-pieces : goal.decreases-pieces
decreases-pieces g l = l.limit + 1 - vec_len l.bytes
