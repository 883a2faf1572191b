use Rattle.std.proofs.Common.{refl}
use Rattle.resil_c.proofs.BookLaws.{finish-follow}
use Rattle.resil_c.specs.Book.{BookView}
use Rattle.resil_c.proofs.pool.book.Book.finish.Goals as goal

pub returns-clause-follows : goal.returns-clause-follows
returns-clause-follows c =
    let b : BookView = record { rule = c.self.inside.rule; last = c.self.inside.last; refused = c.self.inside.refused; finished = c.self.inside.finished } in
    let a : BookView = record { rule = c.finish.new.self; last = c.write.new.self; refused = c.self.inside.refused; finished = c.saturating_add-self-inside.result } in
    let there = c.if-not-finish.ensures.out.0 refl in
    rw (← c.self.view_is) (finish-follow b a c.args.slot there c.if-not-finish.ensures.event c.if-not-finish.ensures.follows c.write.ensures.written refl c.saturating_add-self-inside.ensures)
