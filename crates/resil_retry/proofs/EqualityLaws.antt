-- What `==` says of kinds and outcomes, and of lists of them: that they are equal.
use Rattle.std.proofs.Common.{◌≡◌, arith}
use Rattle.std.specs.Bool.{Decides}
use Rattle.std.proofs.lemmas.Bool.Decides.{Decides-eqb, Decides-int_eq}
use Rattle.resil_retry.specs.declared.outcome.Outcome.{Outcome}
use Rattle.resil_retry.specs.declared.outcome.Kind.{Kind}
use Rattle.resil_retry.specs.contracts.outcome.KindPartialEq.TheImpl.{eq-value as kind_eq}
use Rattle.resil_retry.specs.contracts.outcome.OutcomePartialEq.TheImpl.{eq-value as outcome_eq}

pub kind_decides : (a b : Kind) → Decides (kind_eq.it a b) (a ≡ b)
kind_decides a b = grind (arith, Decides-eqb)

pub outcome_decides : (a b : Outcome) → Decides (outcome_eq.it a b) (a ≡ b)
outcome_decides a b = grind (arith, Decides-int_eq, kind_decides)
