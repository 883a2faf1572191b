use Rattle.resil_simulate.proofs.Words.{take, get_or, take_more}
use Rattle.resil_simulate.proofs.HistoryLaws.{no_timed, times_kept, times_more}
use Rattle.resil_simulate.proofs.history.times_of.Goals as goal

pub loop-timed-preserved-in_default : goal.loop-timed-preserved-in_default
loop-timed-preserved-in_default c =
    let history = c.args.history.now in
    let i = c.loop-timed.timed-index in
    let was = c.loop-timed.invariant in
    record { times = rw (take_more history i no_timed c.loop-timed-test.true) (times_kept c.args.moment (take i history) (get_or history i no_timed) c.loop-timed.times c.in_default.ensures was.times); ordered = was.ordered }

pub loop-timed-preserved : goal.loop-timed-preserved
loop-timed-preserved c =
    let history = c.args.history.now in
    let i = c.loop-timed.timed-index in
    let was = c.loop-timed.invariant in
    let kept = rw c.key_of.ensures.key at c.in_ok-keep_first.ensures.kept in
    record {
      times = rw (take_more history i no_timed c.loop-timed-test.true) (times_more c.args.moment (take i history) (get_or history i no_timed) c.in-Some.id c.loop-timed.times c.keep_first.new.times c.in-Some.ensures c.key_of.ensures.small kept was.times);
      ordered = c.keep_first.ensures.ordered;
    }
