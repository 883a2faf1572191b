use Rattle.std.proofs.Common.{append_assoc}
use Rattle.resil_stats.proofs.svg.elements.BarElement.opening.Goals as goal

pub returns : goal.returns
returns c =
    let plain = simp append_assoc at c.format.ensures.ok in
    let told = rw c.style_of.ensures at plain in
    simp append_assoc (search)
