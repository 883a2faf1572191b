use Rattle.resil_c.proofs.pool.exports.resil_pool_submit_next.Goals as goal

pub returns-then-answer-le-CLOSED-clause-submitted : goal.returns-then-answer-le-CLOSED-clause-submitted
returns-then-answer-le-CLOSED-clause-submitted c few =
    let submitted = c.submit.ensures.submitted (rw c.submit_number-answer.ensures at few) in
    rw (c.into_book.ensures, c.in-Some.is, c.of.ensures) (rw (c.next_id-id.ensures, c.deref.ensures, c.deref_mut.ensures.value) at submitted)
