use Rattle.std.proofs.Common.{◌∙◌, sym}
use Rattle.std.specs.Option.{is_some}
use Rattle.std.proofs.lemmas.List.Folds.{list_all-map}
use Rattle.resil_admission.specs.JobsInvariant.{jobs_of}
use Rattle.resil_admission.proofs.JobLaws.{all_done-kept}
use Rattle.resil_admission.proofs.jobs.Jobs.all_done.Goals as goal

pub returns : goal.returns
returns c =
    let later = c.self.inside.later.items in
    rw (← c.self.view_is) (c.all_finished.ensures ∙ sym (all_done-kept c.self.inside.rows.items (jobs_of later) ∙ list_all-map (λ job. is_some job.run) (λ kept. kept.job) later))
