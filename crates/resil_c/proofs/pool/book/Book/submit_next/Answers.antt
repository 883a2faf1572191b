use Rattle.std.proofs.Common.{refl}
use Rattle.resil_c.proofs.BookLaws.{submitted}
use Rattle.resil_c.specs.Book.{BookView}
use Rattle.resil_c.proofs.pool.book.Book.submit_next.Goals as goal

pub returns-clause-submitted : goal.returns-clause-submitted
returns-clause-submitted c =
    let b : BookView = record { rule = c.self.inside.rule; last = c.self.inside.last; refused = c.self.inside.refused; finished = c.self.inside.finished } in
    let a : BookView = record { rule = c.submit_with_reply.new.self; last = c.write.new.self; refused = c.refused_after-self-inside.result; finished = c.self.inside.finished } in
    let step = c.submit_with_reply.ensures in
    rw (← c.self.view_is) (submitted b a c.args.id c.args.work c.next_reply-reply.result c.next_reply-reply.ensures.rule_of_admission step.submitted step.follows c.write.ensures.written c.refused_after-self-inside.ensures refl)
