use Rattle.std.proofs.Common.{refl, ap}
use Rattle.resil_rule.specs.declared.event.Event.TheVariants.{Resized}
use Rattle.resil_c.proofs.BookLaws.{quiet-follow, unfinished_in}
use Rattle.resil_c.proofs.pool.book.Book.resize.Goals as goal

pub returns-clause-follows : goal.returns-clause-follows
returns-clause-follows c =
    rw (← c.self.view_is) (quiet-follow c.self.inside.rule c.resize.new.self _ _ c.self.inside.refused c.self.inside.finished (Resized c.args.core c.args.max) refl refl refl
    (ap unfinished_in c.in_ok-resize.ensures.event) c.in_ok-resize.ensures.follows c.write.ensures.written)
