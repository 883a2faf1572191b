-- The version in which the history of a load is written.
use Rattle.std.specs.Prelude.{ℕ, ◌&&◌, ◌||◌, Bool, not, List, Option, Some, None, if◌then◌else◌, nat_le, option_map}
use Rattle.std.specs.List.{filter_map}
use Rattle.resil_rule.specs.Limits.{Sizes}
use Rattle.resil_rule.specs.declared.event.Event.{Event}
use Rattle.resil_rule.specs.declared.event.Event.TheVariants as event
use Rattle.resil_rule.specs.declared.event.Reply.{Reply}
use Rattle.resil_rule.specs.declared.event.Reply.TheVariants as reply
use Rattle.resil_rule.specs.declared.timed.Timed.{Timed}
use Rattle.resil_jdk.specs.declared.event.JdkEvent.{JdkEvent}
use Rattle.resil_jdk.specs.declared.event.JdkEvent.TheVariants.{Submit, Take, Finish, IdleEnd, Close, Resized}
use Rattle.resil_jdk.specs.declared.event.JdkReply.{JdkReply}
use Rattle.resil_jdk.specs.declared.event.JdkReply.TheVariants.{Core, Queued, Extra, Full, Closed}
use Rattle.resil_jdk.specs.declared.timed.TimedJdkEvent.{TimedJdkEvent}
use Rattle.resil_record.specs.Text.{record_text}
use Rattle.resil_replay.specs.Timed.{timed_text}
use Rattle.resil_simulate.specs.declared.head.Ways.{Ways}

-- the reply in the words of version 3, which has none for a job that goes directly to an idle worker, or is queued with a worker that
-- begins without a job
abbrev pub own_reply : JdkReply → Option Reply
own_reply Core = Some reply.Core
own_reply Queued = Some reply.Queued
own_reply Extra = Some reply.Extra
own_reply Full = Some reply.Full
own_reply Closed = Some reply.Closed
own_reply _ = None

-- the event in the words of version 3
abbrev pub own_event : JdkEvent → Option Event
own_event (Submit id answer) = option_map (λ own. event.Submit id own) (own_reply answer)
own_event (Take id) = Some (event.Take id)
own_event (Finish id) = Some (event.Finish id)
own_event IdleEnd = Some event.IdleEnd
own_event Close = Some event.Close
own_event (Resized core max) = Some (event.Resized core max)
own_event _ = None

abbrev pub own_timed : TimedJdkEvent → Option Timed
own_timed timed = option_map (λ own. record { event = own; at = timed.at }) (own_event timed.event)

-- the events that version 3 has words for: all of them, in a pool of its sizes
abbrev pub in_own_words : List TimedJdkEvent → List Timed
in_own_words history = filter_map own_timed history

-- sizes that the rule of `audit` takes
abbrev pub has_own_sizes : Sizes → Bool
has_own_sizes sizes = nat_le 1 sizes.core && nat_le sizes.max 64 && nat_le 1 sizes.queue && nat_le sizes.queue 65536

-- version 4 if version 3 has no words for the pool, or core workers time out
abbrev pub version_text : Sizes → Ways → List TimedJdkEvent → List ℕ
version_text sizes ways history = if ways.time_out || not (has_own_sizes sizes) then record_text history else timed_text (in_own_words history)
