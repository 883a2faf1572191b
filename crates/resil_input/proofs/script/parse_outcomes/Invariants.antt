use Rattle.std.proofs.Common.{◌≡◌, ◌==◌, map}
use Rattle.std.specs.Slice.Iter.{split_done, split_rest}
use Rattle.resil_input.specs.OutcomeText.{parse_outcome}
use Rattle.resil_input.specs.Script.{all_some, parse_script}
use Rattle.resil_input.proofs.ScriptLaws.{behind, parts_left}
use Rattle.resil_input.proofs.script.parse_outcomes.Given as goal

-- the script is the outcomes so far, and those of the parts that are left
abbrev pub invariant-loop-item : goal.invariant-loop-item
invariant-loop-item l = parse_script l.text ≡ behind l.outcomes.items (all_some (map parse_outcome (parts_left (λ byte. byte == 59) (split_done l.item-iterator) (split_rest l.item-iterator))))
