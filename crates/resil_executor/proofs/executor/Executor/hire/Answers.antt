-- The closer after it has made a seat.
use Rattle.std.proofs.Common.{ap}
use Rattle.resil_executor.proofs.executor.Executor.hire.Goals as goal

pub returns-clause-closer : goal.returns-clause-closer
returns-clause-closer g c =
    let made = c.hire.ensures.opener in record {
      source = made.0;
      me = made.1;
      key = ap (λ (me : _). me.0.key) made.1;
      own = ap (λ (me : _). me.0.own) made.1;
      made = ap (λ (me : _). me.0.made) made.1;
    }
