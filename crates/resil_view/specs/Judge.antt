-- `judge`: which history of any version an input has, and by which rule it is judged. If `audit` takes the input, the verdict is that of
-- `audit`.
use Rattle.std.proofs.Common.{inl, inr}
use Rattle.std.specs.Prelude.{ℕ, ◌≡◌, ◌⊎◌, false, List, Option, Some, None, Result, ⊤}
use Rattle.resil_rule.specs.Limits.{AreLimits, Sizes}
use Rattle.resil_rule.specs.Verdict as own
use Rattle.resil_rule.specs.declared.event.Event.{Event}
use Rattle.resil_rule.specs.declared.verdict.Verdict.{Verdict}
use Rattle.resil_jdk.specs.FromRule.{jdk_history}
use Rattle.resil_jdk.specs.Verdict as whole
use Rattle.resil_jdk.specs.declared.event.JdkEvent.{JdkEvent}
use Rattle.resil_heads.specs.PoolHead.{PoolHeadView, pool_head_of}
use Rattle.resil_heads.specs.declared.error.HeadError.{HeadError}
use Rattle.resil_heads.specs.declared.pool_head.Uses.{Uses}
use Rattle.resil_heads.specs.declared.refusal.InputRefusal.{InputRefusal}
use Rattle.resil_input.specs.Framing.{parts_of}
use Rattle.resil_input.specs.declared.csv_rows.BodyError.{BodyError}
use Rattle.resil_input.specs.declared.csv_rows.BodyError.TheVariants as body_error
use Rattle.resil_record.specs.Body.{IsRecordBody, IsRecordBodyError}
use Rattle.resil_jdk.specs.Timed.{events_in, times_in}
use Rattle.resil_jdk.specs.declared.timed.TimedJdkEvent.{TimedJdkEvent}
use Rattle.resil_replay.specs.Audit.{IsAuditText, verdict_text}
use Rattle.resil_replay.specs.Timed.{IsHistoryBody, IsHistoryBodyError}
use Rattle.resil_stats.specs.Results.{results_of}
use Rattle.resil_view.specs.Read.{AreInOrder, AreRead, IsReadFrom, IsReadRefusal}
use Rattle.resil_view.specs.declared.judge.Events.{Events}
use Rattle.resil_view.specs.declared.judge.Events.TheVariants as read

-- what a head says; nothing that recorders write there is used
abbrev pub judged_head_of : List ℕ → Result PoolHeadView HeadError
judged_head_of bytes = pool_head_of (record { idle_for = false; made = false; owner = false; began = false; drawing = false }) bytes

-- the events of a history: those of versions 1 to 3, or those of version 4
abbrev pub AnyEvents : Type 0
AnyEvents = List Event ⊎ List JdkEvent

abbrev pub in_own_words : List Event → AnyEvents
in_own_words events = inl events

abbrev pub events_of : Events → AnyEvents
events_of (read.Own events) = inl events.items
events_of (read.Whole events) = inr events.items

-- a body of these events, and of their times if its version has them
abbrev pub IsAnyBody : List ℕ → AnyEvents → Option (List ℕ) → Type 0
IsAnyBody body (inl events) times = IsHistoryBody body events times
IsAnyBody body (inr events) times = (history : List TimedJdkEvent) × IsRecordBody body history × (events ≡ events_in history) × (times ≡ Some (times_in history))

-- why a body isn't a history in any version: it is out of memory; its first record is not the header of a version; or a record after such a
-- header isn't a row
abbrev pub IsAnyBodyError : List ℕ → BodyError → Type 0
IsAnyBodyError body body_error.Memory = ⊤
IsAnyBodyError body body_error.BadHeader = IsHistoryBodyError body body_error.BadHeader × IsRecordBodyError body body_error.BadHeader
IsAnyBodyError body (body_error.BadRow position) = IsHistoryBodyError body (body_error.BadRow position) ⊎ IsRecordBodyError body (body_error.BadRow position)

-- The verdict on a history. One of versions 1 to 3 is judged by the rule of `audit` if that takes the sizes, and by the whole rule if it doesn't; one of
-- version 4 by the whole rule.
abbrev pub IsJudgment : Sizes → AnyEvents → Verdict → Type 0
IsJudgment limits (inl events) verdict = (AreLimits limits → own.IsVerdict limits events verdict) × (¬ AreLimits limits → whole.IsVerdict limits (jdk_history events) verdict)
IsJudgment limits (inr events) verdict = whole.IsVerdict limits events verdict

-- the text is the line of the verdict on a history
abbrev pub IsVerdictText : Sizes → AnyEvents → List ℕ → Type 0
IsVerdictText limits events text = (verdict : Verdict) × IsJudgment limits events verdict × (text ≡ verdict_text verdict)

-- the input has this history, under a head that says this: the results after it can be read, and the times ascend
abbrev pub IsJudgedFrom : List ℕ → PoolHeadView → AnyEvents → Type 0
IsJudgedFrom input said events = (times : Option (List ℕ)) × (results : Option (List ℕ))
    × IsReadFrom judged_head_of IsAnyBody input said events times results × AreRead results × AreInOrder times

-- the text is the line of the verdict on the history of the input
abbrev pub IsJudgeText : List ℕ → List ℕ → Type 0
IsJudgeText input text = (said : PoolHeadView) × (events : AnyEvents) × IsJudgedFrom input said events × IsVerdictText said.limits events text

-- the refusal of the first step that refuses an input of any version; some values of its head are used
abbrev pub IsPoolRefusal : Uses → List ℕ → InputRefusal → Type 0
IsPoolRefusal uses input why = IsReadRefusal (pool_head_of uses) IsAnyBody IsAnyBodyError input why

-- the refusal of the first step that refuses the input
abbrev pub IsJudgeRefusal : List ℕ → InputRefusal → Type 0
IsJudgeRefusal input why = IsReadRefusal judged_head_of IsAnyBody IsAnyBodyError input why

-- the input has a history, and nothing after it
abbrev pub HasNoResults : List ℕ → Type 0
HasNoResults input = (head body : List ℕ) → parts_of input ≡ Some (head, body) → results_of body ≡ None

-- `judge` writes what `audit` writes for an input without results, and refuses no input that `audit` takes.
abbrev pub JudgesAsAudit : Type 0
JudgesAsAudit = (input text : List ℕ) → HasNoResults input → IsAuditText input text
    → ((other : List ℕ) → IsJudgeText input other → other ≡ text) × ((why : InputRefusal) → ¬ IsJudgeRefusal input why)
