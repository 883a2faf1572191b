use Rattle.std.proofs.Common.{append_assoc}
use Rattle.resil_stats.proofs.text.caller_text.Goals as goal

pub returns : goal.returns
returns c =
    let told = simp append_assoc at c.format.ensures.ok in
    simp append_assoc (search)
