use Rattle.std.proofs.Common.{codes}
use Rattle.resil_stats.specs.Text.{total_fields}
use Rattle.resil_stats.proofs.TextLaws.{after, alone}
use Rattle.resil_stats.proofs.text.push_totals.Goals as goal

pub returns : goal.returns
returns c =
    after c.in_ok-push_total.ensures
    (after c.in_ok-push_total-2.ensures
    (after c.in_ok-push_total-3.ensures
    (after c.in_ok-push_total-4.ensures
    (after c.in_ok-push_total-5.ensures
    (after c.in_ok-push_total-6.ensures
    (after c.in_ok-push_total-7.ensures
    (after c.in_ok-push_total-8.ensures
    (after c.in_ok-push_total-9.ensures
    (after c.in_ok-push_total-10.ensures
    (after c.in_ok-push_total-11.ensures
    (after c.in_ok-push_total-12.ensures
    (after c.in_ok-push_total-13.ensures
    (after c.in_ok-push_total-14.ensures
    (after c.in_ok-push_total-15.ensures
    (alone (total_fields (codes "extra_idle") c.args.stats.now.answers.extra_idle) c.in_ok-push_total-16.ensures)))))))))))))))
