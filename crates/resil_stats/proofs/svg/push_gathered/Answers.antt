use Rattle.std.proofs.Common.{string_bytes}
use Rattle.resil_stats.proofs.SvgLaws.{gathered-drawn}
use Rattle.resil_stats.proofs.svg.push_gathered.Goals as goal

pub returns : goal.returns
returns c =
    gathered-drawn c.args.picture.now (string_bytes c.args.text.now) (string_bytes c.push_part.new.text) (string_bytes c.push_elements.new.text) (string_bytes c.push_part-2.new.text)
    c.in_ok-push_part.ensures (rw c.deref.ensures.value at c.in_ok-push_elements.ensures) c.in_ok-push_part-2.ensures
