-- One more event is copied.
use Rattle.std.proofs.Common.{◌∙◌, sym}
use Rattle.std.proofs.lemmas.List.{take_more}
use Rattle.std.proofs.lemmas.Option.{get_or_from_slice_get, slice_get_within}
use Rattle.resil_executor.proofs.history.last_history.Goals as goal

pub loop-index-preserved : goal.loop-index-preserved
loop-index-preserved c =
    let events = c.args.last.now.events in
    let there = sym c.get.ensures ∙ c.in-Some.is in
    let same = get_or_from_slice_get events c.loop-index.index c.in-Some.event c.in-Some.event there in
    let more = take_more events c.loop-index.index c.in-Some.event (slice_get_within events c.loop-index.index c.in-Some.event there) in
    cc (same, more, c.in_ok-push.ensures.items, c.loop-index.invariant)
