use Rattle.std.proofs.Common.{◌∙◌, sym, ◌≤◌, ◌<◌, length, get_or, arith}
use Rattle.resil_input.proofs.NumberLaws.{text-refused, text-taken, parse_number-no_text, parse_number-parse}
use Rattle.resil_input.proofs.number.parse_number.Goals as goal

pub returns-in_err-ok-in-49-to-57 : goal.returns-in_err-ok-in-49-to-57
returns-in_err-ok-in-49-to-57 c =
    let first : 49 ≤ get_or c.args.field.now 0 0 = omega arith in
    let some : 0 < length c.args.field.now = omega arith in
    let none = sym c.ok.ensures.value ∙ c.in_err-ok-in-49-to-57.was in
    c.from_residual.ensures ∙ parse_number-no_text _ (text-refused c.from_utf8.result _ _ _ c.from_utf8.ensures.cases none) first some

pub returns-in_ok-ok-in-49-to-57 : goal.returns-in_ok-ok-in-49-to-57
returns-in_ok-ok-in-49-to-57 c =
    let low : 49 ≤ get_or c.args.field.now 0 0 = omega arith in
    let high : get_or c.args.field.now 0 0 ≤ 57 = omega arith in
    let some : 0 < length c.args.field.now = omega arith in
    let taken = sym c.ok.ensures.value ∙ c.in_ok-ok-in-49-to-57.was in
    let same = text-taken c.from_utf8.result _ _ _ _ c.from_utf8.ensures.cases taken in
    c.ok-in-49-to-57.ensures.value ∙ parse_number-parse c.args.field.now _ c.parse.result same c.parse.ensures.value.0 low high some
