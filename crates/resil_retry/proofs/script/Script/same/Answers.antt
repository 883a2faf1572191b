use Rattle.std.proofs.lemmas.Slice.Eq.{slice_eq-Decides}
use Rattle.resil_retry.proofs.EqualityLaws.{outcome_decides}
use Rattle.resil_retry.proofs.script.Script.same.Goals as goal

pub returns : goal.returns
returns c =
    let decided = slice_eq-Decides outcome_decides c.as_slice.result.now c.as_slice-2.result.now c.eq.result c.eq.ensures in
    rw (← c.as_slice.ensures.outcomes, ← c.as_slice-2.ensures.outcomes) decided
