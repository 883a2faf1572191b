-- How long the jobs of a history of the whole rule waited and ran, and how long idle workers took to come, by the times of its events: at
-- each event that ends a span of a job, the time since the event that began it.
use Rattle.std.specs.Prelude.{ℕ, ◌≡◌, ◌+◌, ◌-◌, ◌*◌, ◌/◌, ◌==◌, ◌&&◌, ◌∷◌, [], ◌++◌, Bool, List, Option, Some, None, if◌then◌else◌, length, nat_lt, option_and_then, slice_get, slice_index}
use Rattle.std.specs.HashMap.{HashMap, get}
use Rattle.std.specs.List.Sorted.{IsPermutation, IsSorted}
use Rattle.std.specs.Option.{option_map}
use Rattle.std.specs.Ordering.{nat_cmp}
use Rattle.resil_rule.specs.History.{is_same_id}
use Rattle.resil_rule.specs.declared.event.Id.{Id}
use Rattle.resil_jdk.specs.History.{accepted_id, finished_id, taken_id, waiting}
use Rattle.resil_jdk.specs.declared.event.JdkReply.TheVariants.{Core, Queued, Handed, Extra}
use Rattle.resil_jdk.specs.declared.event.JdkEvent.{JdkEvent}
use Rattle.resil_jdk.specs.declared.event.JdkEvent.TheVariants.{Submit, Take}
use Rattle.resil_stats.specs.Stats.{idle, made_after}
use Rattle.resil_stats.specs.declared.spans.JdkSpans.{JdkSpans}
use Rattle.resil_stats.specs.declared.spans.Measure.{Measure}
use Rattle.resil_stats.specs.declared.spans.Measure.TheVariants.{Wait, Run, Wake}
use Rattle.resil_stats.specs.declared.spans.Ranks.{Ranks}

-- ---- What begins and ends a span.

-- the job that a worker begins to run at an event: at once, or taken from the queue
abbrev pub started_id : JdkEvent → Option Id
started_id (Submit id Core) = Some id
started_id (Submit id Handed) = Some id
started_id (Submit id Extra) = Some id
started_id (Take id) = Some id
started_id _ = None

-- the job of a submission that was queued while more workers were idle than jobs waited: an idle worker is to come for it
abbrev pub woken_id : List JdkEvent → JdkEvent → Option Id
woken_id before (Submit id Queued) = if nat_lt (length (waiting before)) (idle before) then Some id else None
woken_id before _ = None

-- The job whose span begins at an event, after those before it. The first events restate a state, and begin no wait and no wake.
abbrev pub begun_id : Measure → ℕ → List JdkEvent → JdkEvent → Option Id
begun_id Wait restated before event = if nat_lt (length before) restated then None else accepted_id event
begun_id Run restated before event = started_id event
begun_id Wake restated before event = if nat_lt (length before) restated then None else woken_id before event

-- the job whose span ends at an event
abbrev pub ended_id : Measure → JdkEvent → Option Id
ended_id Wait event = started_id event
ended_id Run event = finished_id event
ended_id Wake event = taken_id event

-- ---- Spans of time.

-- the job whose span begins at an event, with the index of the event, from 0
abbrev pub beginning : Measure → ℕ → List JdkEvent → JdkEvent → Option (Id × ℕ)
beginning measure restated before event = option_map (λ id. (id, length before)) (begun_id measure restated before event)

abbrev pub beginnings : Measure → ℕ → List JdkEvent → List (Id × ℕ)
beginnings measure restated history = made_after (beginning measure restated) [] history

-- what was last noted of a job, something else if nothing was
abbrev pub last_index : {A : Type 0} → Id → Option A → List (Id × A) → Option A
last_index id other [] = other
last_index id other (begun ∷ others) = last_index id (if is_same_id id begun.0 then Some begun.1 else other) others

-- where the span of a job began, if it did, or what else was noted there
abbrev pub begun_at : {A : Type 0} → List (Id × A) → Id → Option A
begun_at begun id = last_index id None begun

-- how long it is from one index to another
abbrev pub span : List ℕ → ℕ → ℕ → ℕ
span times from to = slice_index times to - slice_index times from

-- the span that ends at an event, after those before it: since its beginning; none if no span ends there, or none began
abbrev pub span_at : Measure → ℕ → List ℕ → List JdkEvent → JdkEvent → Option ℕ
span_at measure restated times before event =
    option_and_then (λ id. option_map (λ from. span times from (length before)) (begun_at (beginnings measure restated (before ++ event ∷ [])) id)) (ended_id measure event)

-- all spans of a history
abbrev pub spans : Measure → ℕ → List ℕ → List JdkEvent → List ℕ
spans measure restated times history = made_after (span_at measure restated times) [] history

-- the waits of a history
abbrev pub jdk_waits : ℕ → List ℕ → List JdkEvent → List ℕ
jdk_waits restated times history = spans Wait restated times history

-- when a job was submitted that was accepted
abbrev pub came_at : List JdkEvent → List ℕ → Id → Option ℕ
came_at history times id = option_map (slice_index times) (begun_at (beginnings Wait 0 history) id)

-- ---- Their ranks.

-- The median, the 99th percentile and the greatest of some numbers: of n numbers in ascending order those at the places ⌈n/2⌉, ⌈99n/100⌉
-- and n, from 1; none if there is no number.
pub record AreRanksOf (numbers : List ℕ) (ranks : Ranks) : Type 0 where
  pub ascending : List ℕ
  pub sorted : IsSorted nat_cmp ascending
  pub same : IsPermutation numbers ascending
  pub median : ranks.median ≡ slice_get ascending ((length numbers + 1) / 2 - 1)
  pub p99 : ranks.p99 ≡ slice_get ascending ((99 * length numbers + 99) / 100 - 1)
  pub most : ranks.most ≡ slice_get ascending (length numbers - 1)

-- the ranks of the waits, of the runs and of the wakes of a history
pub record AreJdkSpansOf (restated : ℕ) (history : List JdkEvent) (times : List ℕ) (lengths : JdkSpans) : Type 0 where
  pub waits : AreRanksOf (spans Wait restated times history) lengths.waits
  pub runs : AreRanksOf (spans Run restated times history) lengths.runs
  pub wakes : AreRanksOf (spans Wake restated times history) lengths.wakes

-- ---- What is kept while a history is gone over.

-- whether a key is that of a caller and a number
abbrev pub is_key : (ℕ × ℕ) → (ℕ × ℕ) → Bool
is_key key other = (key.0 == other.0) && (key.1 == other.1)

-- a table has where the span of each job began, or what else was noted there
abbrev pub AreBegun : {A S : Type 0} → List (Id × A) → HashMap (ℕ × ℕ) A S → Type 0
AreBegun begun table = (id : Id) → get is_key table (id.caller, id.number) ≡ begun_at begun id
