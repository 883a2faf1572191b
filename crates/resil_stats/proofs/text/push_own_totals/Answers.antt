use Rattle.std.proofs.Common.{codes}
use Rattle.resil_stats.specs.Text.{total_fields}
use Rattle.resil_stats.proofs.TextLaws.{after, alone}
use Rattle.resil_stats.proofs.text.push_own_totals.Goals as goal

pub returns : goal.returns
returns c =
    after c.in_ok-push_total.ensures
    (after c.in_ok-push_total-2.ensures
    (after c.in_ok-push_total-3.ensures
    (after c.in_ok-push_total-4.ensures
    (after c.in_ok-push_total-5.ensures
    (after c.in_ok-push_total-6.ensures
    (alone (total_fields (codes "time_outs") c.args.stats.now.counts.time_outs) c.in_ok-push_total-7.ensures))))))
