use Rattle.std.proofs.Common.{◌≡◌, ◌+◌, ◌∷◌, [], ◌++◌, ◌∙◌, ℕ, List, Option, Some, ap, arith, get_or, option_and_then, slice_get, subst, sym, take}
use Rattle.std.specs.List.{cons_option}
use Rattle.std.specs.Option.{option_map}
use Rattle.std.proofs.lemmas.List.{length-take-le, length_push, take_more}
use Rattle.resil_rule.specs.declared.event.Id.{Id}
use Rattle.resil_stats.specs.Areas.{IsRunningAfter, IsTally, begun, finished, finished_start, started}
use Rattle.resil_stats.specs.Spans.{AreBegun, begun_at}
use Rattle.resil_stats.specs.declared.areas.Running.{Running}
use Rattle.resil_stats.specs.declared.bars.Start.{Start}
use Rattle.resil_stats.proofs.AreaLaws.{begun-push, finished-few, finished-push, started-few, started-push}
use Rattle.resil_stats.proofs.ListLaws.{each-more}
use Rattle.resil_stats.proofs.LoadLaws.{no_event}
use Rattle.resil_stats.proofs.areas.areas_of.Goals as goal

pub count_some-requires : goal.count_some-requires
count_some-requires c =
    let i = c.loop-event.event-index in
    let few = finished-few (take i c.args.events.now) in
    let long = length-take-le i c.args.events.now (omega (arith, c.loop-event-test.true)) in
    (finished (take i c.args.events.now), c.loop-event.invariant.finished, omega (arith, few, long, c.loop-event-test.true))

pub count_some-requires-in-loop-event : goal.count_some-requires-in-loop-event
count_some-requires-in-loop-event c =
    let i = c.loop-event.event-index in
    let few = started-few (take i c.args.events.now) in
    let long = length-take-le i c.args.events.now (omega (arith, c.loop-event-test.true)) in
    (started (take i c.args.events.now), c.loop-event.invariant.started, omega (arith, few, long, c.loop-event-test.true))

pub loop-event-preserved : goal.loop-event-preserved
loop-event-preserved c =
    let events = c.args.events.now in
    let i = c.loop-event.event-index in
    let h = take i events in
    let e = get_or events i no_event in
    let was = c.loop-event.invariant in
    let more : take (i + 1) events ≡ h ++ e ∷ [] = take_more events i no_event c.loop-event-test.true in
    let had : c.known_start.result ≡ finished_start h e = c.known_start.ensures (begun h) was.begun ∙ ap (option_and_then (begun_at (begun h))) c.finished_job.ensures in
    let ends : finished h ++ cons_option c.known_start.result [] ≡ finished (take (i + 1) events) =
    ap (λ (o : Option Start). finished h ++ cons_option o []) had ∙ sym (finished-push h e) ∙ ap finished (sym more) in
    let is : started h ++ cons_option c.start_of.result [] ≡ started (take (i + 1) events) =
    ap (λ (o : Option Start). started h ++ cons_option o []) (c.start_of.ensures ∙ ap (option_map (λ job. job.1)) c.start_at-job.ensures) ∙ sym (started-push h e) ∙ ap started (sym more) in
    let table : begun h ++ cons_option c.start_at-job.result [] ≡ begun (take (i + 1) events) =
    ap (λ (o : Option (Id × Start)). begun h ++ cons_option o []) c.start_at-job.ensures ∙ sym (begun-push h e) ∙ ap begun (sym more) in
    let f : IsTally (finished (take (i + 1) events)) c.count_some.new.self = subst (λ (l : List Start). IsTally l c.count_some.new.self) ends (c.count_some.ensures (finished h) was.finished) in
    let s : IsTally (started (take (i + 1) events)) c.count_some-in-loop-event.new.self = subst (λ (l : List Start). IsTally l c.count_some-in-loop-event.new.self) is (c.count_some-in-loop-event.ensures (started h) was.started) in
    let each = was.each in
    let items = c.in_ok-push.ensures.items in
    let l = c.less.ensures in
    let Told : List Running → Type 0 = λ areas. (k : ℕ) (running : Running) → slice_get areas k ≡ Some running → IsRunningAfter (take (k + 1) events) running in
    record {
      started = s;
      finished = f;
      begun = subst (λ (l : List (Id × Start)). AreBegun l c.note.new.begun) table (c.in_ok-note.ensures (begun h) was.begun);
      each = rw (items, length_push) (omega (arith, each));
      after = subst Told (sym items) (each-more (λ k running. IsRunningAfter (take (k + 1) events) running) c.loop-event.areas.items _ was.after
          (rw each (record { core = omega (arith, l.core, s.core, f.core); extra = omega (arith, l.extra, s.extra, f.extra); queued = omega (arith, l.queued, s.queued, f.queued); handed = omega (arith, l.handed, s.handed, f.handed) })));
    }
