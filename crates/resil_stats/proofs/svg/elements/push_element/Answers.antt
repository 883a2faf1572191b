use Rattle.std.proofs.Common.{◌≡◌, ◌++◌, append_assoc, rules, string_bytes}
use Rattle.resil_stats.proofs.svg.elements.push_element.Goals as goal

pub returns : goal.returns
returns g c =
    let opened : string_bytes c.push_str.new.self ≡ string_bytes c.args.text.now ++ g.E.Element.begins c.args.element = search rules in
    let rest = c.in_ok-push_part.ensures in
    (rest.0, rw (rest.1, opened) (append_assoc (string_bytes c.args.text.now) (g.E.Element.begins c.args.element) rest.0))
