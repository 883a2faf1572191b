use Rattle.std.proofs.Common.{codes}
use Rattle.resil_stats.specs.Text.{span_fields}
use Rattle.resil_stats.proofs.TextLaws.{after, alone}
use Rattle.resil_stats.proofs.text.push_spans.Goals as goal

pub returns : goal.returns
returns c =
    rw c.in-Some.is
    (after c.in_ok-push_span.ensures
    (after c.in_ok-push_span-2.ensures
    (after c.in_ok-push_span-3.ensures
    (after c.in_ok-push_span-4.ensures
    (after c.in_ok-push_span-5.ensures
    (after c.in_ok-push_span-6.ensures
    (after c.in_ok-push_span-7.ensures
    (alone (span_fields (codes "wake_p99") c.in-Some.spans.wakes.p99) c.in_ok-push_span-8.ensures))))))))
