use Rattle.std.proofs.Common.{◌∙◌, ◌-◌, length, take, drop, sym, arith}
use Rattle.resil_input.proofs.NumberLaws.{numbers-are_decimal}
use Rattle.resil_input.proofs.outcome_text.parse_signed.Goals as goal

pub negative-requires : goal.negative-requires
negative-requires c =
    let number = numbers-are_decimal (take (length c.args.text.now - 1) (drop 1 c.args.text.now)) c.in_ok-parse_number-in-45.field-0 (sym c.parse_number.ensures ∙ c.in_ok-parse_number-in-45.was) in
    omega (arith, number.1)
