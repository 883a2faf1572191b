-- The rows at the beginning of a history stay there when it goes on.
use Rattle.std.proofs.Common.{List, ◌∷◌, ◌++◌, sym, ap, ◌∙◌, append_assoc}
use mathlib.Core.List.{IsPrefix}
use Rattle.resil_rule.specs.declared.event.Event.{Event}
use Rattle.resil_rule.specs.declared.event.Event.TheVariants.{Close}
use Rattle.resil_pool.specs.declared.hold.JobRow.{JobRow}
use Rattle.resil_pool.specs.Words.{LoggedEvent}
use Rattle.resil_pool.specs.Lock.LoggedEvent.{events_in}
use Rattle.resil_pool.specs.Hold.{BeginsWithRows}
use Rattle.resil_pool.proofs.Logs.{events_in-append}

pub begins_later : (rows : List JobRow) (seen history : List Event) → BeginsWithRows rows seen → IsPrefix seen history → BeginsWithRows rows history
begins_later rows seen history b p = record {
  submissions = b.submissions;
  rest = b.rest ++ p.0;
  in_order = b.in_order;
  closed_next = sym p.1 ∙ (ap (λ (h : List Event). h ++ p.0) b.closed_next ∙ append_assoc b.submissions (Close ∷ b.rest) p.0);
}

pub begins_in_log : (rows : List JobRow) (old new : List LoggedEvent) → BeginsWithRows rows (events_in old) → IsPrefix old new → BeginsWithRows rows (events_in new)
begins_in_log rows old new b p = begins_later rows (events_in old) (events_in new) b (events_in p.0, sym (events_in-append old p.0) ∙ ap events_in p.1)
