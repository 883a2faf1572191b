use Rattle.std.proofs.Common.{List, append-nil, subst, sym}
use Rattle.resil_stats.specs.Areas.{IsTally}
use Rattle.resil_stats.specs.declared.bars.Start.{Start}
use Rattle.resil_stats.proofs.areas.Running.count_some.Goals as goal

pub returns-in-Some : goal.returns-in-Some
returns-in-Some c = rw c.in-Some.is (λ starts is. c.count.ensures starts is)

pub returns-in-None : goal.returns-in-None
returns-in-None c = rw c.in-None.is (λ starts is. subst (λ (l : List Start). IsTally l c.args.self.now) (sym (append-nil starts)) is)
