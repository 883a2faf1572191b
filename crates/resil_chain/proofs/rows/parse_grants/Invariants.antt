use Rattle.std.proofs.Common.{◌≡◌, drop, map}
use Rattle.resil_input.specs.Script.{all_some}
use Rattle.resil_input.proofs.ScriptLaws.{behind}
use Rattle.resil_chain.specs.Rows.{parse_grant, parse_grants}
use Rattle.resil_chain.proofs.rows.parse_grants.Given as goal

-- the answers are those so far, and those of the letters that are left
abbrev pub invariant-loop-letter : goal.invariant-loop-letter
invariant-loop-letter l = parse_grants l.letters ≡ behind l.grants.items (all_some (map parse_grant (drop l.letter-index l.letters)))
