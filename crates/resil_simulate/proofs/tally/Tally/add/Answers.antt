use Rattle.std.proofs.Common.{◌<◌, ◌^◌, rules}
use Rattle.resil_jdk.specs.Timed.{events_in}
use Rattle.resil_simulate.proofs.TallyLaws.{legal-next, small-next, tally-next}
use Rattle.resil_simulate.proofs.tally.Tally.add.Goals as goal

pub up_to-self-requires-clause-run_time : goal.up_to-self-requires-clause-run_time
up_to-self-requires-clause-run_time c =
    let (history, is, has, short) = c.requires in
    let fits : c.args.timed.at < 2 ^ 64 = search rules in (small-next history c.args.timed has c.args.self.now is fits).0

pub up_to-self-requires-clause-worker_time : goal.up_to-self-requires-clause-worker_time
up_to-self-requires-clause-worker_time c =
    let (history, is, has, short) = c.requires in
    let fits : c.args.timed.at < 2 ^ 64 = search rules in (small-next history c.args.timed has c.args.self.now is fits).1

pub returns : goal.returns
returns c = λ history is has.
    let legal = legal-next history c.args.timed has in
    tally-next history c.args.timed has c.args.self.now is _ (c.after-self.ensures (events_in history) is.submissions) (c.after-self-2.ensures has.legal.0 (events_in history) legal is.load)
    (c.max-self.ensures.waiting, c.max-self.ensures.running, c.max-self.ensures.workers) c.in_ok-add.ensures.queue c.in_ok-add.ensures.done
    c.up_to-self.ensures.time c.up_to-self.ensures.run_time c.up_to-self.ensures.worker_time c.up_to-self.ensures.finished
