use Rattle.std.proofs.Common.{◌≡◌, ◌-◌, ◌∙◌, List, ap, arith, drop, length, subst, take}
use Rattle.std.proofs.lemmas.List.{take_min, take_rest}
use Rattle.resil_jdk.specs.declared.event.JdkEvent.{JdkEvent}
use Rattle.resil_stats.specs.Stats.{AreJdkCallersOf}
use Rattle.resil_stats.proofs.LoadLaws.{never-few, never-started}
use Rattle.resil_stats.proofs.CountLaws.{drop-min}
use Rattle.resil_stats.proofs.stats.count_jdk.Goals as goal

pub overflow_add-result : goal.overflow_add-result
overflow_add-result c = omega (arith, never-few c.requires.0 c.args.events.now c.requires.1, c.levels_of.ensures.last.waiting, c.counts_of-counts.ensures.removed)

pub returns-clause-numbers : goal.returns-clause-numbers
returns-clause-numbers c =
    let events = c.args.events.now in
    let restating : take c.min-first.result events ≡ take c.args.restated events = ap (λ n. take n events) c.min-first.ensures ∙ take_min c.args.restated events in
    let rest : take (length events - c.min-first.result) (drop c.min-first.result events) ≡ drop c.args.restated events =
    take_rest events c.min-first.result ∙ ap (λ n. drop n events) c.min-first.ensures ∙ drop-min c.args.restated events in
    record {
      answers = rw (restating, rest) at c.answers_of-answers.ensures;
      counts = c.counts_of-counts.ensures;
      most = c.levels_of.ensures.most;
      never_started = omega (arith, never-started c.requires.0 events c.requires.1, c.levels_of.ensures.last.waiting, c.counts_of-counts.ensures.removed);
      callers = subst (λ (h : List JdkEvent). AreJdkCallersOf h c.in_ok-callers.callers) rest c.in_ok-callers.ensures.callers;
      ascending = c.in_ok-callers.ensures.ordered;
    }
