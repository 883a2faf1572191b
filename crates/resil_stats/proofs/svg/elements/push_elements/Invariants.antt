use Rattle.std.proofs.Common.{string_bytes, take}
use Rattle.resil_stats.specs.Svg.{IsAddition, IsMadeOf}
use Rattle.resil_stats.proofs.svg.elements.push_elements.Given as goal

-- the text has the elements so far after what was there
abbrev pub invariant-loop-element : goal.invariant-loop-element
invariant-loop-element g l = IsAddition (IsMadeOf g.E.Element.begins (take l.element-index l.elements)) (string_bytes l.initial.text) (string_bytes l.text)
