use Rattle.std.proofs.Common.{[], ◌≡◌, ◌+◌, ℕ, List, Some, arith, get_or, slice_get, subst, sym, take}
use Rattle.std.proofs.lemmas.List.{length-take-le, length_push, take_more}
use Rattle.resil_jdk.specs.declared.event.JdkEvent.{JdkEvent}
use Rattle.resil_stats.specs.Depth.{IsLevelAfter}
use Rattle.resil_stats.specs.declared.depth.Level.{Level}
use Rattle.resil_stats.proofs.DepthLaws.{AreSizesAfter, sizes-more}
use Rattle.resil_stats.proofs.ListLaws.{each-more}
use Rattle.resil_stats.proofs.LoadLaws.{may-come, next-legal, next-load, no_event}
use Rattle.resil_stats.proofs.depth.levels_of.Goals as goal

pub after-load-requires : goal.after-load-requires
after-load-requires c = may-come c.requires.0 [] c.args.events.now c.requires.1 c.loop-index.index no_event c.loop-index-test.true c.loop-index.load c.loop-index.invariant.load (omega arith)

pub loop-index-preserved : goal.loop-index-preserved
loop-index-preserved c =
    let limits = c.args.limits.now in
    let events = c.args.events.now in
    let i = c.loop-index.index in
    let was = c.loop-index.invariant in
    let lt = c.loop-index-test.true in
    let more = take_more events i no_event lt in
    let legal = next-legal c.requires.0 [] events c.requires.1 i no_event lt in
    let load = next-load c.requires.0 [] events c.requires.1 i no_event lt _ (c.after-load.ensures c.requires.0 (take i events) legal was.load) in
    let sizes : AreSizesAfter limits (take (i + 1) events) c.sizes_after-sizes.result =
    subst (λ (h : List JdkEvent). AreSizesAfter limits h c.sizes_after-sizes.result) (sym more) (sizes-more limits (take i events) (get_or events i no_event) c.loop-index.sizes c.sizes_after-sizes.result c.sizes_after-sizes.ensures was.sizes) in
    let long = length-take-le (i + 1) events (omega arith) in
    let each = was.each in
    let items = c.in_ok-push.ensures.items in
    let Told : List Level → Type 0 = λ levels. (k : ℕ) (level : Level) → slice_get levels k ≡ Some level → IsLevelAfter limits (take (k + 1) events) level in
    record {
      load = load;
      sizes = sizes;
      each = rw (items, length_push) (omega (arith, each));
      after = subst Told (sym items) (each-more (λ k level. IsLevelAfter limits (take (k + 1) events) level) c.loop-index.levels.items _ was.after
          (rw each (record { at = omega (arith, long); waiting = load.waiting; running = load.running; workers = load.workers; core = sizes.0; max = sizes.1 })));
    }
