-- What is marked in a chart: one mark for each refusal, each start, cull and removal, and each change of the pool, and no other.
use Rattle.std.specs.Prelude.{ℕ, List, Option, Some, None}
use Rattle.std.specs.List.{filter_map}
use Rattle.std.specs.Option.{option_map}
use Rattle.resil_jdk.specs.declared.event.JdkReply.TheVariants as reply
use Rattle.resil_jdk.specs.declared.event.JdkEvent.{JdkEvent}
use Rattle.resil_jdk.specs.declared.event.JdkEvent.TheVariants.{Submit, Start, Cull, Remove, Close, Stop, Resized, TimeOut}
use Rattle.resil_stats.specs.Bars.{placed}
use Rattle.resil_stats.specs.declared.marks.Mark.{Mark}
use Rattle.resil_stats.specs.declared.marks.Sign.{Sign}
use Rattle.resil_stats.specs.declared.marks.Sign.TheVariants as shown

-- what an event is marked by; an idle end has no mark, but a cull has one
abbrev pub sign_at : JdkEvent → Option Sign
sign_at (Submit id reply.Full) = Some (shown.Full id)
sign_at (Submit id reply.Closed) = Some (shown.Closed id)
sign_at Start = Some shown.Started
sign_at Cull = Some shown.Culled
sign_at (Remove id) = Some (shown.Removed id)
sign_at Close = Some shown.Closing
sign_at Stop = Some shown.Stopping
sign_at (Resized core max) = Some (shown.Resized core max)
sign_at (TimeOut on) = Some (shown.TimeOut on)
sign_at _ = None

abbrev pub mark_at : ℕ × JdkEvent → Option Mark
mark_at placed_event = option_map (λ s. record { at = placed_event.0; sign = s }) (sign_at placed_event.1)

-- the marks of a history, each at the place of its event
abbrev pub marks_in : List JdkEvent → List Mark
marks_in history = filter_map mark_at (placed history)
