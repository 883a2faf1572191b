-- The words of other crates and the types of this one that the definitions and laws here use, in one place.
pub use mathlib.Core.List.{IsPrefix}
pub use Rattle.atomic_table.specs.declared.shared.Seat.{Seat}
pub use Rattle.resil_rule.specs.Admission.{IsAllowed, IsLegal, reply_after}
pub use Rattle.resil_rule.specs.History.{times, is_among, is_closed, waiting, running, accepted, finished, submissions, workers, core_size, max_size, is_same_id, is_close, started_id, queued_id, taken_id, finished_id, accepted_id, is_submit_of}
pub use Rattle.resil_rule.specs.Limits.{Sizes}
pub use Rattle.resil_rule.specs.Sizes.{AreSizes}
pub use Rattle.resil_rule.specs.RuleState.{IsStateOf, HasNoneToPick, Follows, IsPicked}
pub use Rattle.resil_rule.specs.RuleView.{RuleView, busy, owed, made_by, HasOneToPick, is_acceptance, with_submission, with_pick, with_take, with_finish, ids_of}
pub use Rattle.resil_rule.specs.Slots.{ids_out}
pub use Rattle.resil_rule.specs.declared.event.Event.{Event}
pub use Rattle.resil_rule.specs.declared.event.Event.TheVariants.{Submit, Finish}
pub use Rattle.resil_rule.specs.declared.event.Id.{Id}
pub use Rattle.resil_rule.specs.declared.event.Reply.{Reply}
pub use Rattle.resil_rule.specs.declared.event.Reply.TheVariants.{Core, Queued, Extra, Full, Closed}
pub use Rattle.resil_rule.specs.declared.record.Record.{Ghosts}
pub use Rattle.resil_rule.specs.declared.rule.Picked.{Picked}
pub use Rattle.resil_rule.specs.declared.slots.Slot.{Slot}
pub use Rattle.resil_lock.specs.BetweenSteps.{IsSeatAt, HoldsBetweenSteps}
pub use Rattle.resil_lock.specs.Lock.{first_view, visitor_view, is_there, total, weigh, IsCovered, left_view, holder_view, made_one}
pub use Rattle.resil_lock.specs.Work.{AfterRounds, OnFound, OnNothing, OnOver}
pub use Rattle.resil_lock.specs.declared.log.Logged.{Logged}
pub use Rattle.resil_lock.specs.declared.protocol.Rank.{Rank}
pub use Rattle.resil_lock.specs.declared.protocol.View.{View}
pub use Rattle.resil_lock.specs.declared.work.Look.{Look}
pub use Rattle.resil_lock.specs.declared.work.Look.TheVariants.{Found, Nothing, Over}
pub use Rattle.resil_executor.specs.declared.job.PickedJob.{PickedJob}
pub use Rattle.resil_executor.specs.declared.no_answer.NoAnswer.{NoAnswer}
pub use Rattle.resil_executor.specs.declared.opening.Opening.{Opening}
pub use Rattle.resil_executor.specs.declared.state.Numbers.{Numbers}
pub use Rattle.resil_executor.specs.declared.state.State.{State}
