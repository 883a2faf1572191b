use Rattle.std.proofs.Common.{rules}
use Rattle.resil_heads.specs.CommandError.{IsError}
use Rattle.resil_heads.specs.Parts.{SplitsInto}
use Rattle.resil_heads.specs.PoolHead.{pool_head_of, said_of}
use Rattle.resil_input.proofs.RowLaws.{handed-on}
use Rattle.resil_view.specs.Judge.{IsAnyBody, IsAnyBodyError, IsPoolRefusal}
use Rattle.resil_view.proofs.ViewLaws.{history-refused}
use Rattle.resil_view.proofs.judge.read_parts.Goals as goal

pub returns-in_err-history : goal.returns-in_err-history
returns-in_err-history c =
    let split : SplitsInto (pool_head_of c.args.uses) c.args.input.now (said_of c.in_ok-said.said) c.in_ok-head.body.now = (c.in_ok-head.head.now, search rules, search rules) in
    handed-on c.from_residual-in_err-history.result _ (IsError (IsPoolRefusal c.args.uses c.args.input.now)) _ c.from_residual-in_err-history.ensures.1
    (history-refused (pool_head_of c.args.uses) IsAnyBody IsAnyBodyError _ _ _ c.in_err-history.field-0.0 split (rw c.split_body.ensures.history at c.in_err-history.ensures))
