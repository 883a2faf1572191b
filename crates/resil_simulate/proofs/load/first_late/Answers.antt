use Rattle.resil_simulate.proofs.Words.{◌≡◌, ◌<◌, ◌+◌, ◌-◌, ◌*◌, ◌^◌, arith, below_more, end_of}
use Rattle.resil_simulate.proofs.LoadLaws.{end-here, ends-more, no_job, runs-more}
use Rattle.resil_simulate.proofs.load.first_late.Goals as goal

pub returns-then-at-spent : goal.returns-then-at-spent
returns-then-at-spent c =
    let i = c.loop-index.index in
    let here = end-here c.args.ways c.args.arrivals.now i no_job c.loop-index-test.true in
    let last = ends-more c.args.arrivals.now i no_job c.loop-index-test.true in
    let same : i + 1 - 1 ≡ i = omega arith in
    record { within = (omega arith, omega arith); late = rw same (omega (arith, here, last)); first = λ k lt. c.loop-index.invariant.in_time k (omega arith) }

pub loop-index-preserved : goal.loop-index-preserved
loop-index-preserved c =
    let i = c.loop-index.index in
    let here = end-here c.args.ways c.args.arrivals.now i no_job c.loop-index-test.true in
    let more = runs-more c.args.arrivals.now i no_job c.loop-index-test.true in
    let last = ends-more c.args.arrivals.now i no_job c.loop-index-test.true in
    let woken : c.args.ways.wakes * (i + 1) ≡ c.args.ways.wakes * i + c.args.ways.wakes = grind arith in
    record {
      spent = omega (arith, more, woken);
      latest = omega (arith, last);
      small = omega arith;
      in_time = below_more (λ k. end_of c.args.ways c.args.arrivals.now k < 2 ^ 64) i c.loop-index.invariant.in_time (omega (arith, here, last));
    }
