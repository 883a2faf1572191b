-- A report whose answers the bulkheads can't have given.
use Rattle.std.proofs.Common.{◌≡◌, ◌≤◌, List, true, false, inr, sym, ◌∙◌, subst, arith}
use Rattle.std.proofs.lemmas.List.{length-map}
use Rattle.resil_admission.specs.declared.row.Row.{Row}
use Rattle.resil_driver.specs.Run.Play.{AreWithin}
use Rattle.resil_driver.proofs.run.runner.ThreadRunnerJobRunner.run.Goals as goal

pub returns-in-Ok-clause-answer : goal.returns-in-Ok-clause-answer
returns-in-Ok-clause-answer g c =
    let core = c.requires.limits.core.0 in
    let max = c.requires.limits.max.0 in
    let told = c.in-Ok.ensures in
    let some : 1 ≤ c.args.batch.settings.config.limits.max = omega arith in
    let more : ¬ AreWithin c.args.batch.bulkheads.now c.in-Ok.report.results.items = λ within.
    let no : false ≡ true = c.if-not-may_have_answered.ensures.1 (subst (λ (rows : List Row). AreWithin c.args.batch.bulkheads.now rows) (sym c.deref.ensures.value) within) in absurd (cc) in (
      some,
      inr (record {
        report = c.in-Ok.report;
        pool = record {
          one_legal_history = told.one_legal_history;
          each_callers_submissions = told.each_callers_submissions;
          all_callers = length-map _ _ ∙ told.callers;
          no_others = told.no_others;
          collected_exactly_once = told.collected_exactly_once;
          plans = told.plans;
          held = told.held_rows;
        };
        more = more;
      }),
    )
