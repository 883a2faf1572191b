-- Results that agree with the receipts are collected once each, as the machine's accepted jobs are those of its history.
use Rattle.std.proofs.Common.{sym, ap, ◌∙◌}
use Rattle.resil_pool.specs.Words.{accepted}
use Rattle.resil_pool.proofs.ReceiptLaws.{collected}
use Rattle.resil_pool.proofs.draining.report.into_report.Goals as goal

pub returns-in-Ok-clause-collected_exactly_once : goal.returns-in-Ok-clause-collected_exactly_once
returns-in-Ok-clause-collected_exactly_once c =
    collected _ _ _ _ c.in-Ok.ensures.results (c.in-Ok.ensures.accepted ∙ ap accepted (sym c.in-Ok.ensures.history)) (c.requires.agree _ c.in-Ok.ensures.results).results
