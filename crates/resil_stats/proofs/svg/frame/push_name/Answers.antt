use Rattle.std.proofs.Common.{◌≡◌, ◌++◌, ◌==◌, ◌∙◌, ap, append_assoc, chars, codes, false, flat_map, length, map-id, rules, string_bytes, sym}
use Rattle.std.proofs.lemmas.Iterator.{YieldsList-from_chars}
use Rattle.std.proofs.lemmas.Iterator.Consumers.{YieldsList-end}
use Rattle.std.proofs.lemmas.List.{flat_map_more}
use Rattle.resil_stats.specs.Svg.{xml_letter}
use Rattle.resil_stats.proofs.svg.frame.push_name.Goals as goal

pub loop-letter-preserved : goal.loop-letter-preserved
loop-letter-preserved c =
    c.in_ok-push_letter.ensures ∙ ap (λ l. l ++ xml_letter c.in-Some.letter) c.loop-letter.invariant
    ∙ flat_map_more xml_letter _ c.loop-letter.yielded c.in-Some.letter

pub returns : goal.returns
returns c =
    let done = YieldsList-end (YieldsList-from_chars c.args.name.now c.utf8.name cc) c.loop-letter.yielded _ c.loop-letter.yielded_by _ _ c.in-None.is c.next.ensures.steps in
    let opened : string_bytes c.push_str.new.self ≡ string_bytes c.args.text.now ++ codes "<text x=\"6\" y=\"2\" font-size=\"17\" font-weight=\"bold\">" = search rules in
    let letters : string_bytes c.loop-letter.text ≡ string_bytes c.push_str.new.self ++ flat_map xml_letter (chars c.args.name.now) =
    c.loop-letter.invariant ∙ ap (λ cs. string_bytes c.push_str.new.self ++ flat_map xml_letter cs) (sym (map-id c.loop-letter.yielded) ∙ done.0) in
    let closed : string_bytes c.push_str-2.new.self ≡ string_bytes c.loop-letter.text ++ codes "</text>\n" = search rules in
    let some : (length c.args.name.now == 0) ≡ false = sym c.is_empty.ensures ∙ c.if-is_empty.false in
    rw (some, closed, letters, opened) (simp append_assoc)
