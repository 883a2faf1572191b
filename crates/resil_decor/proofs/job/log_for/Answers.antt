use Rattle.std.proofs.Common.{◌≡◌, arith, refl, List}
use Rattle.std.specs.Prelude.{reverse, Result, Ok, Err, IfOk}
use Rattle.resil_decor.specs.declared.layer.Layer.{Layer}
use Rattle.resil_decor.specs.RunLog.{RunLogView, IsReadyFor}
use Rattle.resil_decor.proofs.ChainLimitLaws.{max_calls-reverse}
use Rattle.resil_decor.proofs.job.log_for.Goals as goal

-- what holds of a log holds of one that is made as that log is
of-made : {E : Type 0} {log : RunLogView} (r : Result RunLogView E) → IfOk r (λ made. made ≡ log) → (layers : List Layer) → IsReadyFor layers log → IfOk r (IsReadyFor layers)
of-made (Ok made) same layers ready = rw same ready
of-made (Err e) same layers ready = tt

pub returns : goal.returns
returns c =
    let same = max_calls-reverse c.args.plan.now.layers in
    let asked = rw c.layers.ensures.layers at c.max_permit_requests-asked.ensures in
    of-made c.new.result c.new.ensures (reverse c.args.plan.now.layers) (
      record {
        some_call = omega (arith, same, c.layers.ensures.allowed.some_call);
        calls = omega (arith, same, c.layers.ensures.allowed.few_calls);
        waits = omega (arith, same, c.max_calls.ensures);
        asked = omega (arith, asked);
      },
      refl,
      refl,
      refl,
    )
