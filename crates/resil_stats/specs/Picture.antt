-- The chart of a history: what is drawn of its events up to the first illegal one.
use Rattle.std.specs.Prelude.{ℕ, ◌≡◌, ◌-◌, true, false, [], List, Option, None, filter, length, option_map, slice_get}
use Rattle.resil_rule.specs.Limits.{Sizes}
use Rattle.resil_rule.specs.declared.verdict.Verdict.{Verdict}
use Rattle.resil_rule.specs.declared.verdict.Verdict.TheVariants.{Legal, FirstIllegal}
use Rattle.resil_jdk.specs.declared.event.JdkEvent.{JdkEvent}
use Rattle.resil_stats.specs.Areas.{AreAreasOf}
use Rattle.resil_stats.specs.Bars.{AreBarsOf}
use Rattle.resil_stats.specs.Columns.{AreColumnsOf, is_gathered}
use Rattle.resil_stats.specs.Depth.{AreLevelsOf, opening_sizes}
use Rattle.resil_stats.specs.Marks.{marks_in}
use Rattle.resil_stats.specs.Stats.{AreJdkStatsOf, legal_part}
use Rattle.resil_stats.specs.Window.{height_of, is_marked, is_reached, window_of}
use Rattle.resil_stats.specs.declared.bars.Bar.{Bar}
use Rattle.resil_stats.specs.declared.depth.Level.{Level}
use Rattle.resil_stats.specs.declared.picture.Drawn.{Drawn}
use Rattle.resil_stats.specs.declared.picture.Picture.{Picture}
use Rattle.resil_stats.specs.declared.window.Extent.{Extent}
use Rattle.resil_stats.specs.declared.window.Window.{Window}

-- the first illegal event of a history with its place, by the verdict: none of a legal one
abbrev pub first_illegal : Verdict → List JdkEvent → Option (ℕ × JdkEvent)
first_illegal Legal history = None
first_illegal (FirstIllegal position) history = option_map (λ event. (position, event)) (slice_get history (position - 1))

-- the bars that reach into a window, each as in the whole history
abbrev pub AreBarsIn : Window → List JdkEvent → List Bar → Type 0
AreBarsIn window events bars = (all : List Bar) × AreBarsOf events all × (bars ≡ filter (is_reached window) all)

-- What is drawn of the jobs of some events in a window; the events may have times. It is a bar for each job that ran or, if events are
-- gathered, columns, and how many jobs ran after each event.
pub record AreDrawn (window : Window) (events : List JdkEvent) (levels : List Level) (times : Option (List ℕ)) (drawn : Drawn) : Type 0 where
  pub bars : is_gathered window levels ≡ false → AreBarsIn window events drawn.bars.items
  pub no_columns : is_gathered window levels ≡ false → drawn.columns.items ≡ []
  pub columns : is_gathered window levels ≡ true → AreColumnsOf events levels times window drawn.columns.items
  pub areas : is_gathered window levels ≡ true → AreAreasOf events drawn.areas.items

-- The chart of a history with this verdict in a pool of some limits: of the part that an extent gives; its events may have times. Its
-- numbers and its levels are those of the whole history: in a window they are those at that moment.
pub record IsPictureOf (extent : Extent) (limits : Sizes) (verdict : Verdict) (history : List JdkEvent) (times : Option (List ℕ)) (picture : Picture) : Type 0 where
  pub limits_are : picture.limits ≡ limits
  pub opening : picture.opening ≡ opening_sizes limits (legal_part verdict history)
  pub events : picture.events ≡ length history
  pub numbers : AreJdkStatsOf 0 (legal_part verdict history) picture.stats
  pub verdict_is : picture.stats.verdict ≡ verdict
  pub window : picture.window ≡ window_of extent times (length (legal_part verdict history))
  pub most_waiting : picture.heights.waiting ≡ height_of extent.waiting picture.stats.most.waiting
  pub most_workers : picture.heights.workers ≡ height_of extent.workers picture.stats.most.workers
  pub marks : picture.marks.items ≡ filter (is_marked picture.window) (marks_in (legal_part verdict history))
  pub levels : AreLevelsOf limits (legal_part verdict history) picture.levels.items
  pub drawn : AreDrawn picture.window (legal_part verdict history) picture.levels.items times picture.drawn
  pub illegal : option_map (λ i. (i.at, i.event)) picture.illegal ≡ first_illegal verdict history
