use Rattle.resil_simulate.proofs.Words.{inr, plan_of, rules, IsArrivalsRefusal}
use Rattle.resil_heads.specs.CommandError.{IsError}
use Rattle.resil_input.proofs.RowLaws.{handed-on}
use Rattle.resil_simulate.proofs.CommandLaws.{history-refused}
use Rattle.resil_simulate.proofs.command.read_arrivals.Goals as goal

pub returns-in_err-load-in-History : goal.returns-in_err-load-in-History
returns-in_err-load-in-History c =
    let plan = plan_of c.args.head.now in
    let why = c.in_err-load-in-History.field-0.0 in
    handed-on c.from_residual-in_err-load-in-History.result _ (IsError (IsArrivalsRefusal c.args.body.now plan)) why c.from_residual-in_err-load-in-History.ensures.1
    (history-refused plan c.args.body.now c.in-History.history.items (search (rules, c.in-History.is)) why (rw c.deref-in-History.ensures.value at c.in_err-load-in-History.ensures))

pub returns-in_ok-load-in-History : goal.returns-in_ok-load-in-History
returns-in_ok-load-in-History c = inr (c.in-History.history.items, search (rules, c.in-History.is), rw c.deref-in-History.ensures.value at c.in_ok-load-in-History.ensures)
