use Rattle.std.proofs.Common.{option_map}
use Rattle.resil_heads.specs.CommandError.{IsError}
use Rattle.resil_heads.specs.PoolHead.{pool_head_of, said_of}
use Rattle.resil_input.proofs.RowLaws.{handed-on}
use Rattle.resil_view.specs.Command.{IsShownRefusal, drawn_uses}
use Rattle.resil_view.specs.Judge.{IsAnyBody, IsAnyBodyError, events_of}
use Rattle.resil_view.proofs.ViewLaws.{order-refused, results-refused}
use Rattle.resil_view.proofs.drawn.drawn_text.Goals as goal

pub returns-in_err-results : goal.returns-in_err-results
returns-in_err-results c =
    handed-on c.from_residual.result _ (IsError (IsShownRefusal c.args.input.now)) _ c.from_residual.ensures.1
    (results-refused (pool_head_of drawn_uses) IsAnyBody IsAnyBodyError c.args.input.now _ _ _ _ c.in-Ok.ensures c.in_err-results.field-0.0 c.in_err-results.ensures)

pub returns-in_err-check_order : goal.returns-in_err-check_order
returns-in_err-check_order c =
    handed-on c.from_residual-in_err-check_order.result _ (IsError (IsShownRefusal c.args.input.now)) _ c.from_residual-in_err-check_order.ensures.1
    (order-refused (pool_head_of drawn_uses) IsAnyBody IsAnyBodyError c.args.input.now _ _ _ _ c.in-Ok.ensures c.in_ok-results.ensures c.in_err-check_order.field-0.0 c.in_err-check_order.ensures)

pub returns-in-Ok-drawn : goal.returns-in-Ok-drawn
returns-in-Ok-drawn c = (
  said_of c.in-Ok.read.0,
  events_of c.in-Ok.read.1.events,
  option_map (λ times. times.items) c.in-Ok.read.1.times,
  option_map (λ results. results.now) c.in-Ok.read.2,
  c.in-Ok.ensures,
  c.in_ok-results.ensures,
  c.in_ok-check_order.ensures,
  c.in-Ok-drawn.ensures,
)
