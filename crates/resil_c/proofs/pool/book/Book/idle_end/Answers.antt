use Rattle.std.proofs.Common.{refl, ap}
use Rattle.resil_rule.specs.declared.event.Event.TheVariants.{IdleEnd}
use Rattle.resil_c.proofs.BookLaws.{quiet-follow, unfinished_in}
use Rattle.resil_c.proofs.pool.book.Book.idle_end.Goals as goal

pub returns-then-ended-clause-follows : goal.returns-then-ended-clause-follows
returns-then-ended-clause-follows c =
    rw (c.if-ended.true, ← c.self.view_is) (quiet-follow c.self.inside.rule c.idle_end-ended.new.self _ _ c.self.inside.refused c.self.inside.finished IdleEnd refl refl refl
    (ap unfinished_in c.if-ended.ensures.event) c.if-ended.ensures.follows c.write.ensures.written)
