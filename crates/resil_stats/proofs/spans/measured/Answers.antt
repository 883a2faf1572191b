use Rattle.std.proofs.Common.{◌∷◌, [], ◌++◌, ◌+◌, arith, get_or, sym, take}
use Rattle.std.proofs.lemmas.List.{length-take-le, take_more}
use Rattle.resil_stats.specs.Spans.{AreBegun, beginnings}
use Rattle.resil_stats.proofs.LoadLaws.{may-come, next-legal, next-load, no_event}
use Rattle.resil_stats.proofs.SpanLaws.{noted, pushed}
use Rattle.resil_stats.proofs.spans.measured.Goals as goal

pub after-load-requires : goal.after-load-requires
after-load-requires c =
    may-come c.requires.0 [] c.args.events.now c.requires.1 c.loop-index.index no_event c.loop-index-test.true c.loop-index.load c.loop-index.invariant.load (omega arith)

pub loop-index-preserved : goal.loop-index-preserved
loop-index-preserved c =
    let events = c.args.events.now in
    let i = c.loop-index.index in
    let before = take i events in
    let m = c.args.measure in
    let r = c.args.restated in
    let was = c.loop-index.invariant in
    let lt = c.loop-index-test.true in
    let index = sym (length-take-le i events (omega (arith, lt))) in
    let more = take_more events i no_event lt in
    let e = get_or events i no_event in
    let begun : AreBegun (beginnings m r (before ++ e ∷ [])) c.note.new.begun = noted m r before e i index _ c.note.new.begun (c.begun_id-id.ensures before index was.load) (c.in_ok-note.ensures (beginnings m r before) was.begun) in
    let ended = c.ended_span-span.ensures (beginnings m r (before ++ e ∷ [])) begun in
    let lengths = pushed m r before e i index c.args.times.now _ _ _ _ c.ended_id.ensures ended was.lengths c.in_ok-push_some.ensures in
    let load = c.after-load.ensures c.requires.0 before (next-legal c.requires.0 [] events c.requires.1 i no_event lt) was.load in
    record {
      load = next-load c.requires.0 [] events c.requires.1 i no_event lt _ load;
      begun = rw more begun;
      lengths = rw more lengths;
    }
