-- An event that is another one than its row's: then the events aren't those of the rows.
use Rattle.resil_pool.proofs.HoldLaws.{rows_at}
use Rattle.resil_pool.proofs.hold.are_rows.Goals as goal

pub returns-then-not-is_submission_of : goal.returns-then-not-is_submission_of
returns-then-not-is_submission_of c = (
  λ no. absurd (let f = no in cc),
  λ are. c.if-not-is_submission_of.ensures.names.1 (rows_at c.args.rows.now c.args.events.now c.loop-place.place _ c.index-rows-place.result c.loop-place-test.true are),
)
