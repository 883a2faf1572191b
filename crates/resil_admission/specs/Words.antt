-- The names from other crates, and the types of this one, that the definitions and laws here use, in one place.
pub use Rattle.resil_decor.specs.Plan.{PlanView}
pub use Rattle.resil_decor.specs.Run.{RunView, IsValue}
pub use Rattle.resil_rule.specs.Admission.{IsAllowed}
pub use Rattle.resil_rule.specs.History.{is_same_id, started, taken, unfinished, next_number, is_among, accepted, times, waiting, running, workers, started_id, accepted_id}
pub use Rattle.resil_rule.specs.Limits.{Sizes}
pub use Rattle.resil_rule.specs.Record.{AllView}
pub use Rattle.resil_rule.specs.RuleState.{IsStateOf, Follows}
pub use Rattle.resil_rule.specs.RuleView.{owed, with_finish, with_close, with_idle_end, with_sizes, opened, RuleView, made_by, next_reply, is_acceptance, counted, with_submission, with_pick, with_take}
pub use Rattle.resil_rule.specs.Slots.{ids_out}
pub use Rattle.resil_rule.specs.declared.error.AdmitError.{AdmitError}
pub use Rattle.resil_rule.specs.declared.event.Event.{Event}
pub use Rattle.resil_rule.specs.declared.event.Event.TheVariants.{Submit, Take, Finish, Close, IdleEnd, Resized}
pub use Rattle.resil_rule.specs.declared.event.Id.{Id}
pub use Rattle.resil_rule.specs.declared.event.Reply.{Reply}
pub use Rattle.resil_rule.specs.declared.event.Reply.TheVariants.{Core, Queued, Extra, Full, Closed}
pub use Rattle.resil_rule.specs.declared.slots.Slot.{Slot}
pub use Rattle.resil_admission.specs.declared.jobs.Accepted.{Accepted}
pub use Rattle.resil_admission.specs.declared.kept_job.Progress.{Progress}
pub use Rattle.resil_admission.specs.declared.kept_job.Progress.TheVariants.{Unfinished, Finished}
pub use Rattle.resil_admission.specs.declared.row.Row.{Row}
pub use Rattle.resil_admission.specs.declared.submission_table.Place.{Place}
