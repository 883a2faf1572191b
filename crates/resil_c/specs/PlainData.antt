-- Replies, jobs and events as numbers.
use Rattle.std.specs.Prelude.{ℕ, Result, Ok, Err}
use Rattle.resil_rule.specs.declared.slots.Slot.{Slot}
use Rattle.resil_rule.specs.declared.rule.Origin.{Origin}
use Rattle.resil_rule.specs.declared.rule.Origin.TheVariants.{OwnStart, Queue}
use Rattle.resil_rule.specs.declared.error.AdmitError.{AdmitError}
use Rattle.resil_rule.specs.declared.error.AdmitError.TheVariants as why
use Rattle.resil_rule.specs.declared.error.Refusal.{Refusal}
use Rattle.resil_rule.specs.declared.error.Refusal.TheVariants as refused
use Rattle.resil_rule.specs.declared.event.Reply.{Reply}
use Rattle.resil_rule.specs.declared.event.Reply.TheVariants.{Core, Queued, Extra, Full, Closed}
use Rattle.resil_rule.specs.declared.event.Event.{Event}
use Rattle.resil_rule.specs.declared.event.Event.TheVariants.{Submit, Take, Finish, IdleEnd, Close, Resized}
use Rattle.resil_c.specs.declared.pool.plain_data.BookError.{BookError}
use Rattle.resil_c.specs.declared.pool.plain_data.BookError.TheVariants as opening
use Rattle.resil_c.specs.declared.pool.plain_data.PoolJob.{PoolJob}
use Rattle.resil_c.specs.declared.pool.plain_data.PoolEvent.{PoolEvent}

-- why a pool isn't made, by what the rule says about its sizes and about memory
abbrev pub from_rule : AdmitError → BookError
from_rule why.CoreOutOfRange = opening.CoreRange
from_rule why.MaxOutOfRange = opening.MaxRange
from_rule why.QueueOutOfRange = opening.QueueRange
from_rule _ = opening.Memory

-- the same as a number
abbrev pub open_number : BookError → ℕ
open_number opening.Memory = 1
open_number opening.CoreRange = 2
open_number opening.MaxRange = 3
open_number opening.QueueRange = 4
open_number opening.CallersRange = 5

-- the reply of the rule
abbrev pub reply_number : Reply → ℕ
reply_number Core = 0
reply_number Queued = 1
reply_number Extra = 2
reply_number Full = 3
reply_number Closed = 4

-- the answer to a submission
abbrev pub submit_number : Result Reply Refusal → ℕ
submit_number (Ok reply) = reply_number reply
submit_number (Err refused.Full) = 3
submit_number (Err refused.Closed) = 4
submit_number (Err refused.WrongNumber) = 5
submit_number (Err refused.NoSuchCaller) = 6

-- the origin of a picked job
abbrev pub origin_number : Origin → ℕ
origin_number OwnStart = 0
origin_number Queue = 1

-- a job that was picked, and back
abbrev pub plain_job : Slot → ℕ → PoolJob
plain_job slot work = record { work = work; number = slot.id.number; place = slot.place; caller = slot.id.caller }

abbrev pub slot_of : PoolJob → Slot
slot_of job = record { id = record { caller = job.caller; number = job.number }; place = job.place }

-- an event; 255 means no reply, and 0 means no job or no sizes
abbrev pub plain_event : Event → PoolEvent
plain_event (Submit id reply) = record { number = id.number; caller = id.caller; kind = 0; reply = reply_number reply; core = 0; max = 0 }
plain_event (Take id) = record { number = id.number; caller = id.caller; kind = 1; reply = 255; core = 0; max = 0 }
plain_event (Finish id) = record { number = id.number; caller = id.caller; kind = 2; reply = 255; core = 0; max = 0 }
plain_event IdleEnd = record { number = 0; caller = 0; kind = 3; reply = 255; core = 0; max = 0 }
plain_event Close = record { number = 0; caller = 0; kind = 4; reply = 255; core = 0; max = 0 }
plain_event (Resized core max) = record { number = 0; caller = 0; kind = 5; reply = 255; core = core; max = max }
