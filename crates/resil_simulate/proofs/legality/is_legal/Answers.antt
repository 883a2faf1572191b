use Rattle.resil_rule.specs.declared.verdict.Verdict.TheVariants.{Legal}
use Rattle.resil_jdk.proofs.VerdictLaws.{verdict_unique}
use Rattle.resil_simulate.proofs.legality.is_legal.Goals as goal

pub returns-in-Ok-FirstIllegal : goal.returns-in-Ok-FirstIllegal
returns-in-Ok-FirstIllegal c = (
  λ is. absurd (cc is),
  λ legal.
      let here = c.in-Some.ensures.legal.1 legal.0 legal.1 legal.2 in
      absurd (cc (verdict_unique c.in-Some.limits c.args.events.now Legal _ here c.in-Ok-FirstIllegal.ensures.verdict)),
)
