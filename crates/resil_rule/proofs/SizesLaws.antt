-- Sizes in the ranges of `Limits`.
use Rattle.std.proofs.Common.{◌≡◌, ◌≤◌, ℕ, arith}
use Rattle.std.proofs.lemmas.Bool.{cases_lt}
use Rattle.resil_rule.specs.Limits.{Sizes, AreLimits, IsResizeRefusal}
use Rattle.resil_rule.specs.Sizes.{most_core, IsRefusedResize}
use Rattle.resil_rule.specs.declared.error.AdmitError.{AdmitError}
use Rattle.resil_rule.specs.declared.error.AdmitError.TheVariants as refused

-- in a pool of at most 64 workers no core size above 64 may be set
most-of-few : (sizes : Sizes) → sizes.max ≤ 64 → most_core sizes ≡ 64
most-of-few sizes few = grind (arith, few, cases_lt 64 sizes.max)

-- a resize of a pool of limits is refused for the reasons that its limits give
pub refused-of-limits : (sizes : Sizes) → AreLimits sizes → (core max : ℕ) (e : AdmitError) → IsRefusedResize sizes core max e → IsResizeRefusal sizes core max e
refused-of-limits sizes are core max refused.CoreOutOfRange barred = λ within. barred (within.0, rw (most-of-few sizes are.max.1) within.1)
refused-of-limits sizes are core max refused.MaxOutOfRange (within, barred) = ((within.0, rw (most-of-few sizes are.max.1) at within.1), barred)
refused-of-limits sizes are core max refused.Memory within = within
refused-of-limits sizes are core max refused.QueueOutOfRange barred = elim barred [ ]
refused-of-limits sizes are core max refused.WrongNumber barred = elim barred [ ]
refused-of-limits sizes are core max refused.NotOut barred = elim barred [ ]
refused-of-limits sizes are core max refused.OtherJob barred = elim barred [ ]
refused-of-limits sizes are core max refused.NotDone barred = elim barred [ ]
