use Rattle.resil_c.proofs.pool.exports.resil_pool_submit.Goals as goal

pub returns-clause-submitted : goal.returns-clause-submitted
returns-clause-submitted c few =
    let submitted = c.submit-answer.ensures.submitted (rw c.submit_number.ensures at few) in
    rw (c.into_book.ensures, c.in-Some.is, c.of.ensures) (rw c.deref_mut.ensures.value at submitted)
