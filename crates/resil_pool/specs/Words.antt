-- The names from other crates, and the types of this one, that the definitions and laws here use, in one place.
use Rattle.resil_lock.specs.declared.log.Logged.{Logged}
use Rattle.resil_pool.specs.declared.lock.logged_event.Carried.{Carried}
pub use mathlib.Core.List.{IsPrefix}
pub use Rattle.atomic_table.specs.Seated.{TableId}
pub use Rattle.resil_decor.specs.Plan.{PlanView}
pub use Rattle.resil_decor.specs.Run.{RunView, IsValue}
pub use Rattle.resil_decor.specs.declared.permitter.Asked.{Asked}
pub use Rattle.resil_rule.specs.Limits.{Sizes, AreLimits}
pub use Rattle.resil_rule.specs.declared.event.Id.{Id}
pub use Rattle.resil_rule.specs.declared.event.Reply.{Reply}
pub use Rattle.resil_rule.specs.declared.event.Event.{Event}
pub use Rattle.resil_rule.specs.declared.event.Event.TheVariants.{Submit, Close, Take, Finish, IdleEnd, Resized}
pub use Rattle.resil_rule.specs.declared.error.AdmitError.{AdmitError}
pub use Rattle.resil_rule.specs.History.{submissions, is_close, is_closed, taken, taken_id, finished, finished_id, times, is_among, started, is_same_id, waiting, running, is_submit_of, accepted, started_id, next_number, accepted_id}
pub use Rattle.resil_rule.specs.Admission.{IsAllowed, AreAllowedAfter, IsLegal}
pub use Rattle.resil_admission.specs.MachineView.{MachineView, AreResultsOf, jobs_in_flight, newly_accepted, with_event, with_submission, with_run, with_finish, IsPicked, ids_of, plan_of, IsSubmitRefusal, HasNoneToPick, AllDone, IsFinishRefusal, next_started}
pub use Rattle.resil_admission.specs.declared.jobs.Accepted.{Accepted}
pub use Rattle.resil_admission.specs.declared.row.Row.{Row}
pub use Rattle.resil_lock.specs.declared.log.Note.{Note}
pub use Rattle.resil_pool.specs.declared.lock.opening.PoolOpening.{PoolOpening}
pub use Rattle.resil_pool.specs.declared.lock.state.PoolState.{PoolState}
pub use Rattle.resil_pool.specs.declared.lock.state.Written.{Written}
pub use Rattle.resil_pool.specs.declared.receipt.Receipt.{Receipt}
pub use Rattle.resil_pool.specs.declared.receipt.Ticket.{Ticket}
pub use Rattle.resil_pool.specs.declared.hold.JobRow.{JobRow}

-- what a turn wrote, with the plan or the run that came with it
abbrev pub LoggedEvent : Type 0
LoggedEvent = Logged Carried
