-- `stats`: what is read of an input, and the text of the numbers of the history in it.
use Rattle.std.proofs.Common.{inl, inr}
use Rattle.std.specs.Prelude.{ℕ, ◌≡◌, ◌≤◌, ◌<◌, ◌⊎◌, Bool, true, false, List, Option, Some, None, IsSomeAnd, length}
use Rattle.resil_rule.specs.Limits.{Sizes}
use Rattle.resil_rule.specs.declared.verdict.Verdict.{Verdict}
use Rattle.resil_jdk.specs.FromRule.{jdk_history}
use Rattle.resil_jdk.specs.declared.event.JdkEvent.{JdkEvent}
use Rattle.resil_heads.specs.PoolHead.{PoolHeadView, pool_head_of}
use Rattle.resil_heads.specs.declared.error.HeadError.TheVariants as error
use Rattle.resil_heads.specs.declared.pool_head.Uses.{Uses}
use Rattle.resil_heads.specs.declared.refusal.InputRefusal.{InputRefusal}
use Rattle.resil_heads.specs.declared.refusal.InputRefusal.TheVariants as refusal
use Rattle.resil_stats.specs.Stats.{AreJdkStatsOf, legal_part}
use Rattle.resil_stats.specs.Text.{stats_text}
use Rattle.resil_stats.specs.Spans.{AreJdkSpansOf}
use Rattle.resil_stats.specs.declared.stats.JdkStats.{JdkStats}
use Rattle.resil_stats.specs.declared.spans.JdkSpans.{JdkSpans}
use Rattle.resil_view.specs.Judge.{AnyEvents, IsAnyBody, IsJudgment, IsPoolRefusal}
use Rattle.resil_view.specs.Read.{AreInOrder, AreRead, IsReadFrom}

-- what is used of a recorder's values in a head: how many events restate a state
abbrev pub counted_uses : Uses
counted_uses = record { idle_for = false; made = true; owner = false; began = false; drawing = false }

-- the events of a history in the words of the whole rule, and whether they are of version 4
abbrev pub jdk_events : AnyEvents → List JdkEvent
jdk_events (inl events) = jdk_history events
jdk_events (inr events) = events

abbrev pub is_whole : AnyEvents → Bool
is_whole (inl events) = false
is_whole (inr events) = true

-- the spans of a history, if it has times
abbrev pub AreSpansIn : ℕ → List JdkEvent → Option (List ℕ) → Option JdkSpans → Type 0
AreSpansIn restated history None spans = spans ≡ None
AreSpansIn restated history (Some times) spans = IsSomeAnd spans (AreJdkSpansOf restated history times)

-- the text of the numbers of a history with this verdict, and of its times if it has some
abbrev pub IsTableOf : Verdict → ℕ → List JdkEvent → Option (List ℕ) → Bool → List ℕ → Type 0
IsTableOf verdict restated history times is_whole text = (stats : JdkStats) × (spans : Option JdkSpans) × (stats.verdict ≡ verdict)
    × AreJdkStatsOf restated (legal_part verdict history) stats × AreSpansIn restated (legal_part verdict history) times spans × (text ≡ stats_text stats spans is_whole)

-- the text of the numbers of a history in a pool of these sizes; its first events restate a state
abbrev pub IsNumbersText : Sizes → ℕ → AnyEvents → Option (List ℕ) → List ℕ → Type 0
IsNumbersText limits restated events times text = (verdict : Verdict) × IsJudgment limits events verdict × IsTableOf verdict restated (jdk_events events) times (is_whole events) text

-- the input has this history with these times, under a head that says this: the results after it can be read, and the times ascend
abbrev pub IsCountedFrom : List ℕ → PoolHeadView → AnyEvents → Option (List ℕ) → Type 0
IsCountedFrom input said events times = (results : Option (List ℕ)) × IsReadFrom (pool_head_of counted_uses) IsAnyBody input said events times results × AreRead results × AreInOrder times

-- the text is that of the numbers of the history of the input; by the head, no more events restate a state than there are
abbrev pub IsStatsText : List ℕ → List ℕ → Type 0
IsStatsText input text = (said : PoolHeadView) × (events : AnyEvents) × (times : Option (List ℕ)) × IsCountedFrom input said events times
    × (said.recorded.made ≤ length (jdk_events events)) × IsNumbersText said.limits said.recorded.made events times text

-- why a number of events that restate a state is refused: there are fewer events
abbrev pub IsManyMade : ℕ → AnyEvents → InputRefusal → Type 0
IsManyMade made events (refusal.Head error.BadValue) = length (jdk_events events) < made
IsManyMade made events why = ⊥

-- the input is read, and by its head more events restate a state than there are
abbrev pub HasManyMade : List ℕ → InputRefusal → Type 0
HasManyMade input why = (said : PoolHeadView) × (events : AnyEvents) × (times : Option (List ℕ)) × IsCountedFrom input said events times × IsManyMade said.recorded.made events why

-- the refusal of the first step that refuses the input; the last step compares the events that restate a state with all events
abbrev pub IsStatsRefusal : List ℕ → InputRefusal → Type 0
IsStatsRefusal input why = IsPoolRefusal counted_uses input why ⊎ HasManyMade input why
