use Rattle.resil_replay.proofs.Words.{rules, handed-on, IsHistoryBodyError}
use Rattle.resil_replay.proofs.VersionLaws.{history-headless, history-timed}
use Rattle.resil_replay.proofs.timed.read_history.Goals as goal

pub returns-in_err-rows-in-Some-Timed : goal.returns-in_err-rows-in-Some-Timed
returns-in_err-rows-in-Some-Timed c =
    let is = c.in_ok-opened.ensures.opened in
    let same = rw c.in-Some-Timed.field-0-is at c.in-Some-Timed.ensures.some in
    let why = c.in_err-rows-in-Some-Timed.field-0.0 in
    handed-on c.from_residual-in_err-rows-in-Some-Timed.result _ (IsHistoryBodyError c.args.body.now) why c.from_residual-in_err-rows-in-Some-Timed.ensures.1
    (history-timed c.args.body.now c.in_ok-opened.opened is same why (c.in_err-rows-in-Some-Timed.ensures c.args.body.now is))

pub returns-in_ok-times-in-Some-Timed : goal.returns-in_ok-times-in-Some-Timed
returns-in_ok-times-in-Some-Timed c =
    let read = c.in_ok-rows-in-Some-Timed.ensures c.args.body.now c.in_ok-opened.ensures.opened in
    (c.in_ok-rows-in-Some-Timed.rows.items, read, search rules, search rules)

pub returns-in-None : goal.returns-in-None
returns-in-None c = history-headless c.args.body.now c.in_ok-opened.opened c.in_ok-opened.ensures.opened c.in-None.ensures.none
