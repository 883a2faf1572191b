use Rattle.std.proofs.Common.{◌≡◌, ◌++◌, flat_map, string_bytes}
use Rattle.resil_stats.specs.Svg.{xml_letter}
use Rattle.resil_stats.proofs.svg.frame.push_name.Given as goal

-- the text has the letters so far after what was there
abbrev pub invariant-loop-letter : goal.invariant-loop-letter
invariant-loop-letter l = string_bytes l.text ≡ string_bytes l.initial.text ++ flat_map xml_letter l.yielded
