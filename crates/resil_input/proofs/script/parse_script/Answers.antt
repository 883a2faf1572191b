use Rattle.std.proofs.Common.{◌≡◌, ◌==◌, ◌∷◌, ◌∙◌, List, [], Option, Some, None, map, sym, ap, arith}
use Rattle.std.proofs.lemmas.List.Splits.{slice_split_none}
use Rattle.std.specs.Prelude.{MatchOption, IsSomeAnd}
use Rattle.resil_retry.specs.declared.outcome.Outcome.{Outcome}
use Rattle.resil_input.specs.OutcomeText.{parse_outcome}
use Rattle.resil_input.specs.Script.{all_some, split_items}
use Rattle.resil_input.proofs.script.parse_script.Goals as goal

-- the script of one outcome, if there is one
script-of_one : (outcome : Option Outcome) (script : Option (List Outcome)) → MatchOption outcome (script ≡ None) (λ only. IsSomeAnd script (λ outcomes. outcomes ≡ only ∷ [])) → script ≡ all_some (outcome ∷ [])
script-of_one None script h = h
script-of_one (Some only) None h = absurd h
script-of_one (Some only) (Some outcomes) h = ap Some h

pub returns-else-contains-clause-script : goal.returns-else-contains-clause-script
returns-else-contains-clause-script c =
    let none = rw c.if-contains.false at c.contains.ensures.cases in
    let one : split_items c.args.text.now ≡ c.args.text.now ∷ [] = slice_split_none (λ byte. byte == 59) c.args.text.now (λ k d within. none k d (omega arith) within) in
    script-of_one c.parse_outcome.result _ c.map.ensures.cases
    ∙ ap (λ outcome. all_some (outcome ∷ [])) c.parse_outcome.ensures
    ∙ ap (λ parts. all_some (map parse_outcome parts)) (sym one)
