use Rattle.std.proofs.Common.{List, append-nil, subst, sym}
use Rattle.resil_rule.specs.declared.event.Id.{Id}
use Rattle.resil_stats.specs.Spans.{AreBegun}
use Rattle.resil_stats.specs.declared.bars.Start.{Start}
use Rattle.resil_stats.proofs.SpanLaws.{begun-more}
use Rattle.resil_stats.proofs.areas.note.Goals as goal

pub returns-in-None : goal.returns-in-None
returns-in-None c = rw c.in-None.is (λ all are. subst (λ (l : List (Id × Start)). AreBegun l c.args.begun.now) (sym (append-nil all)) are)

pub returns-in_ok-insert-in-Some : goal.returns-in_ok-insert-in-Some
returns-in_ok-insert-in-Some c = rw c.in-Some.is (λ all are. begun-more all c.in-Some.id c.in-Some.start c.args.begun.now c.insert.new.self c.in_ok-insert-in-Some.ensures.updates.0 are)
