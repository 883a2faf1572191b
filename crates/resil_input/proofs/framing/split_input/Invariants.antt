use Rattle.std.proofs.Common.{◌≡◌, ◌≤◌, drop, length, take}
use Rattle.resil_input.specs.Framing.{parts_of, with_prefix}
use Rattle.resil_input.proofs.framing.split_input.Given as goal

abbrev pub invariant-loop-line : goal.invariant-loop-line
invariant-loop-line l = record {
  within : l.start ≤ length l.input;
  rest : l.line-iterator.rest.now ≡ drop l.start l.input;
  parts : parts_of l.input ≡ with_prefix (take l.start l.input) (parts_of (drop l.start l.input));
}
