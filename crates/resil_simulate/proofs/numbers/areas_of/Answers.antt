use Rattle.resil_simulate.proofs.Words.{◌≡◌, ◌+◌, ◌-◌, [], ℕ, List, true, false, ap, arith, is_finish, running_count}
use Rattle.resil_jdk.specs.History.{workers}
use Rattle.resil_jdk.specs.declared.event.JdkEvent.{JdkEvent}
use Rattle.resil_stats.proofs.LoadLaws.{may-come, next-legal, next-load, no_event}
use Rattle.resil_simulate.proofs.NumberLaws.{areas-next, finish-next, no_finish}
use Rattle.resil_simulate.proofs.numbers.areas_of.Goals as goal

pub after-load-requires : goal.after-load-requires
after-load-requires c =
    let (limits, sizes, legal) = c.requires.legal in
    may-come limits [] c.args.events.now legal c.loop-index.index no_event c.loop-index-test.true c.loop-index.load c.loop-index.invariant.load (omega arith)

pub plus-so_far-requires-clause-run_time : goal.plus-so_far-requires-clause-run_time
plus-so_far-requires-clause-run_time c =
    let i = c.loop-index.index in
    let was = c.loop-index.invariant in
    let lasts = rw c.saturating_sub.ensures at c.saturating_sub-lasts.ensures in
    let next = areas-next _ _ c.requires c.type_inv.times i _ _ c.loop-index-test.true was.load lasts in
    omega (arith, next.run_time, next.small, was.run_time)

pub plus-so_far-requires-clause-worker_time : goal.plus-so_far-requires-clause-worker_time
plus-so_far-requires-clause-worker_time c =
    let i = c.loop-index.index in
    let was = c.loop-index.invariant in
    let lasts = rw c.saturating_sub.ensures at c.saturating_sub-lasts.ensures in
    let next = areas-next _ _ c.requires c.type_inv.times i _ _ c.loop-index-test.true was.load lasts in
    omega (arith, next.worker_time, next.small, was.worker_time)

pub loop-index-preserved-in_default : goal.loop-index-preserved-in_default
loop-index-preserved-in_default c =
    let i = c.loop-index.index in
    let was = c.loop-index.invariant in
    let lasts = rw c.saturating_sub.ensures at c.saturating_sub-lasts.ensures in
    let next = areas-next _ _ c.requires c.type_inv.times i _ _ c.loop-index-test.true was.load lasts in
    let plus = c.plus-so_far.ensures in
    let same : i + 1 - 1 ≡ i = omega arith in
    let last = λ (number : List JdkEvent → ℕ).
    finish-next c.args.events.now c.args.times.now number i no_event false c.loop-index-test.true (no_finish _ c.in_default.not-Finish) in
    record {
      load =
          let (limits, sizes, legal) = c.requires.legal in
          next-load limits [] c.args.events.now legal i no_event c.loop-index-test.true _ (c.after-load.ensures limits _ (next-legal limits [] c.args.events.now legal i no_event c.loop-index-test.true) was.load);
      run_time = rw same (omega (arith, plus.run_time, next.run_time, was.run_time));
      worker_time = rw same (omega (arith, plus.worker_time, next.worker_time, was.worker_time));
      finished_run = rw (last running_count) was.finished_run;
      finished_worker = rw (last workers) was.finished_worker;
    }

pub loop-index-preserved : goal.loop-index-preserved
loop-index-preserved c =
    let i = c.loop-index.index in
    let was = c.loop-index.invariant in
    let lasts = rw c.saturating_sub.ensures at c.saturating_sub-lasts.ensures in
    let next = areas-next _ _ c.requires c.type_inv.times i _ _ c.loop-index-test.true was.load lasts in
    let plus = c.plus-so_far.ensures in
    let same : i + 1 - 1 ≡ i = omega arith in
    let last = λ (number : List JdkEvent → ℕ).
    finish-next c.args.events.now c.args.times.now number i no_event true c.loop-index-test.true (ap is_finish c.in-Finish.is) in
    record {
      load =
          let (limits, sizes, legal) = c.requires.legal in
          next-load limits [] c.args.events.now legal i no_event c.loop-index-test.true _ (c.after-load.ensures limits _ (next-legal limits [] c.args.events.now legal i no_event c.loop-index-test.true) was.load);
      run_time = rw same (omega (arith, plus.run_time, next.run_time, was.run_time));
      worker_time = rw same (omega (arith, plus.worker_time, next.worker_time, was.worker_time));
      finished_run = rw (last running_count) (omega (arith, plus.run_time, next.run_time, was.run_time));
      finished_worker = rw (last workers) (omega (arith, plus.worker_time, next.worker_time, was.worker_time));
    }
