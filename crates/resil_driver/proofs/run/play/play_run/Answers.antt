use Rattle.std.proofs.lemmas.List.Elements.{All-map}
use Rattle.resil_workers.specs.Batch.Submit.{IsFrom}
use Rattle.resil_driver.specs.Run.Play.{row_for_job}
use Rattle.resil_driver.proofs.run.play.play_run.Goals as goal

pub run-requires-clause-rows : goal.run-requires-clause-rows
run-requires-clause-rows g c = rw (c.run_settings-settings.ensures, c.in_ok-rows.ensures) (All-map (IsFrom c.args.request.words.callers) (row_for_job _) c.args.jobs.items c.requires.jobs)
