-- What is read of an input, which text a view of it has, and why it has none.
use Rattle.std.specs.Prelude.{ℕ, true, false, List, Option}
use Rattle.resil_rule.specs.Limits.{Sizes}
use Rattle.resil_rule.specs.declared.verdict.Verdict.{Verdict}
use Rattle.resil_heads.specs.PoolHead.{PoolHeadView, pool_head_of}
use Rattle.resil_heads.specs.declared.drawing.Drawing.{Drawing}
use Rattle.resil_heads.specs.declared.pool_head.Uses.{Uses}
use Rattle.resil_heads.specs.declared.refusal.InputRefusal.{InputRefusal}
use Rattle.resil_stats.specs.Svg.{IsHistorySvg}
use Rattle.resil_stats.specs.declared.window.Extent.{Extent}
use Rattle.resil_view.specs.Judge.{AnyEvents, IsAnyBody, IsJudgeRefusal, IsJudgeText, IsJudgment, IsPoolRefusal}
use Rattle.resil_view.specs.Numbers.{IsStatsRefusal, IsStatsText, jdk_events}
use Rattle.resil_view.specs.Read.{IsReadFrom, AreRead, AreInOrder}
use Rattle.resil_view.specs.declared.command.HistoryView.{HistoryView}
use Rattle.resil_view.specs.declared.command.HistoryView.TheVariants as view

-- what is used of the head of a history that is drawn: when the first event was, and what is to be drawn
abbrev pub drawn_uses : Uses
drawn_uses = record { idle_for = false; made = false; owner = false; began = true; drawing = true }

-- how far a chart reaches, by what a head says of it
abbrev pub extent_of : Drawing → Extent
extent_of drawing = record { from = drawing.from; to = drawing.to; waiting = drawing.most_waiting; workers = drawing.most_workers }

-- the text of the chart, with a name, of a history in a pool of these sizes, by the verdict of `judge`: of the part that an extent gives
abbrev pub IsPictureText : Extent → List ℕ → Sizes → AnyEvents → Option (List ℕ) → List ℕ → Type 0
IsPictureText extent name limits events times text = (verdict : Verdict) × IsJudgment limits events verdict × IsHistorySvg extent name limits verdict (jdk_events events) times text

-- the text is that of the chart of the history of the input: the results after it can be read, and the times ascend
abbrev pub IsTimelineText : List ℕ → List ℕ → Type 0
IsTimelineText input text = (said : PoolHeadView) × (events : AnyEvents) × (times : Option (List ℕ)) × (results : Option (List ℕ))
    × IsReadFrom (pool_head_of drawn_uses) IsAnyBody input said events times results × AreRead results × AreInOrder times × IsPictureText (extent_of said.drawing) said.name said.limits events times text

-- the text of a view of the history that is read of the input: its verdict, its numbers, or its chart with its name
abbrev pub IsViewText : HistoryView → List ℕ → List ℕ → Type 0
IsViewText view.Judge = IsJudgeText
IsViewText view.Stats = IsStatsText
IsViewText view.Timeline = IsTimelineText

-- a refusal of a history that is drawn
abbrev pub IsShownRefusal : List ℕ → InputRefusal → Type 0
IsShownRefusal = IsPoolRefusal drawn_uses

-- a refusal of a view
abbrev pub IsViewRefusal : HistoryView → List ℕ → InputRefusal → Type 0
IsViewRefusal view.Judge = IsJudgeRefusal
IsViewRefusal view.Stats = IsStatsRefusal
IsViewRefusal view.Timeline = IsShownRefusal
