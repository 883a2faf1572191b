use Rattle.std.proofs.Common.{option_map}
use Rattle.resil_heads.specs.CommandError.{IsError}
use Rattle.resil_heads.specs.PoolHead.{pool_head_of, said_of}
use Rattle.resil_input.proofs.RowLaws.{handed-on}
use Rattle.resil_view.specs.Judge.{IsAnyBody, IsAnyBodyError, events_of}
use Rattle.resil_view.specs.Numbers.{IsCountedFrom, IsStatsRefusal, counted_uses}
use Rattle.resil_view.proofs.NumberLaws.{made-refused, read-refused}
use Rattle.resil_view.proofs.ViewLaws.{order-refused, results-refused}
use Rattle.resil_view.proofs.numbers.numbers_text.Goals as goal

pub returns-in-Err : goal.returns-in-Err
returns-in-Err c = read-refused c.args.input.now c.in-Err.why c.in-Err.ensures

pub returns-in_err-known_results : goal.returns-in_err-known_results
returns-in_err-known_results c =
    handed-on c.from_residual.result _ (IsError (IsStatsRefusal c.args.input.now)) _ c.from_residual.ensures.1
    (read-refused c.args.input.now _ (results-refused (pool_head_of counted_uses) IsAnyBody IsAnyBodyError c.args.input.now _ _ _ _ c.in-Ok.ensures c.in_err-known_results.field-0.0 c.in_err-known_results.ensures))

pub returns-in_err-check_order : goal.returns-in_err-check_order
returns-in_err-check_order c =
    handed-on c.from_residual-in_err-check_order.result _ (IsError (IsStatsRefusal c.args.input.now)) _ c.from_residual-in_err-check_order.ensures.1
    (read-refused c.args.input.now _ (order-refused (pool_head_of counted_uses) IsAnyBody IsAnyBodyError c.args.input.now _ _ _ _ c.in-Ok.ensures c.in_ok-known_results.ensures c.in_err-check_order.field-0.0 c.in_err-check_order.ensures))

pub returns-in-Err-restated_in : goal.returns-in-Err-restated_in
returns-in-Err-restated_in c =
    let read : IsCountedFrom c.args.input.now (said_of c.in-Ok.read.0) (events_of c.in-Ok.read.1.events) (option_map (λ times. times.items) c.in-Ok.read.1.times) =
    (option_map (λ results. results.now) c.in-Ok.read.2, c.in-Ok.ensures, c.in_ok-known_results.ensures, c.in_ok-check_order.ensures) in
    made-refused c.args.input.now _ _ _ read c.in-Err-restated_in.why c.in-Err-restated_in.ensures

pub returns-in-Ok-counted : goal.returns-in-Ok-counted
returns-in-Ok-counted c = (
  said_of c.in-Ok.read.0,
  events_of c.in-Ok.read.1.events,
  option_map (λ times. times.items) c.in-Ok.read.1.times,
  (option_map (λ results. results.now) c.in-Ok.read.2, c.in-Ok.ensures, c.in_ok-known_results.ensures, c.in_ok-check_order.ensures),
  c.in-Ok-restated_in.ensures.1,
  rw c.in-Ok-restated_in.ensures.0 at c.in-Ok-counted.ensures,
)
