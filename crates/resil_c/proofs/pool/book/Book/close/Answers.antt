use Rattle.std.proofs.Common.{refl, ap}
use Rattle.resil_rule.specs.declared.event.Event.TheVariants.{Close}
use Rattle.resil_c.proofs.BookLaws.{quiet-follow, unfinished_in}
use Rattle.resil_c.proofs.pool.book.Book.close.Goals as goal

pub returns-then-closed-clause-follows : goal.returns-then-closed-clause-follows
returns-then-closed-clause-follows c =
    rw (c.if-closed.true, ← c.self.view_is) (quiet-follow c.self.inside.rule c.close-closed.new.self _ _ c.self.inside.refused c.self.inside.finished Close refl refl refl
    (ap unfinished_in c.if-closed.ensures.event) c.if-closed.ensures.follows c.write.ensures.written)
