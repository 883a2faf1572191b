use Rattle.std.proofs.Common.{◌≡◌, ◌++◌, rules, string_bytes}
use Rattle.std.proofs.lemmas.Map.Iter.{rest_more}
use Rattle.std.specs.Map.Iter.{deref_pair}
use Rattle.resil_input.specs.CsvTable.{table_text}
use Rattle.resil_stats.specs.Text.{caller_records}
use Rattle.resil_stats.proofs.TextLaws.{caller-pushed}
use Rattle.resil_stats.proofs.text.push_callers.Goals as goal

pub loop-caller-preserved : goal.loop-caller-preserved
loop-caller-preserved c =
    let left = rest_more deref_pair _ _ _ (c.in-Some.caller, c.in-Some.numbers) c.in-Some.is c.next.ensures.steps in
    let more : string_bytes c.push_str.new.self ≡ string_bytes c.loop-caller.text ++ table_text (caller_records (c.in-Some.caller.now, c.in-Some.numbers.now)) = search rules in
    caller-pushed _ _ _ _ _ _ left (record { is = more }) c.loop-caller.invariant
