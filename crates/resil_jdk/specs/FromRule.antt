-- A history of the rule of `resil_rule`, read as one of the whole rule.
use Rattle.std.specs.Prelude.{◌≤◌, ◌↔◌, List, ◌∷◌, [], map}
use Rattle.resil_rule.specs.Limits.{Sizes, AreLimits}
use Rattle.resil_rule.specs.Admission as rule
use Rattle.resil_rule.specs.declared.event.Reply.{Reply}
use Rattle.resil_rule.specs.declared.event.Reply.TheVariants as reply
use Rattle.resil_rule.specs.declared.event.Event.{Event}
use Rattle.resil_rule.specs.declared.event.Event.TheVariants as event
use Rattle.resil_jdk.specs.Admission.{IsLegal}
use Rattle.resil_jdk.specs.declared.event.JdkReply.{JdkReply}
use Rattle.resil_jdk.specs.declared.event.JdkReply.TheVariants.{Core, Queued, Extra, Full, Closed}
use Rattle.resil_jdk.specs.declared.event.JdkEvent.{JdkEvent}
use Rattle.resil_jdk.specs.declared.event.JdkEvent.TheVariants.{Submit, Take, Finish, IdleEnd, Close, Resized}

abbrev pub jdk_reply : Reply → JdkReply
jdk_reply reply.Core = Core
jdk_reply reply.Queued = Queued
jdk_reply reply.Extra = Extra
jdk_reply reply.Full = Full
jdk_reply reply.Closed = Closed

abbrev pub jdk_event : Event → JdkEvent
jdk_event (event.Submit id answer) = Submit id (jdk_reply answer)
jdk_event (event.Take id) = Take id
jdk_event (event.Finish id) = Finish id
jdk_event event.IdleEnd = IdleEnd
jdk_event event.Close = Close
jdk_event (event.Resized core max) = Resized core max

-- the same events, word for word
abbrev pub jdk_history : List Event → List JdkEvent
jdk_history history = map jdk_event history

-- an event that doesn't set the core size 0
abbrev pub HasCore : Event → Type 0
HasCore (event.Resized core max) = 1 ≤ core
HasCore _ = Unit {0}

-- no resize sets the core size 0
abbrev pub HaveCore : List Event → Type 0
HaveCore [] = Unit {0}
HaveCore (e ∷ events) = HasCore e × HaveCore events

-- With sizes that `resil_rule` takes, and if no resize sets the core size 0, a history is legal by the one rule exactly if it is by the other.
abbrev pub AreLegalAlike : Type 0
AreLegalAlike = (limits : Sizes) (history : List Event) → AreLimits limits → HaveCore history → rule.IsLegal limits history ↔ IsLegal limits (jdk_history history)
