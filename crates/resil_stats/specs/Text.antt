-- The text of the numbers of a history: a table with a record for each number.
use Rattle.std.specs.Prelude.{ℕ, ◌≡◌, ◌++◌, ◌∷◌, [], Bool, true, false, List, Option, Some, None, codes}
use Rattle.std.specs.Fmt.{decimal}
use Rattle.std.specs.List.{flat_map}
use Rattle.resil_rule.specs.declared.verdict.Verdict.{Verdict}
use Rattle.resil_rule.specs.declared.verdict.Verdict.TheVariants.{Legal, FirstIllegal}
use Rattle.resil_stats.specs.declared.stats.CallerStats.{CallerStats}
use Rattle.resil_stats.specs.declared.stats.JdkStats.{JdkStats}
use Rattle.resil_stats.specs.declared.spans.JdkSpans.{JdkSpans}
use Rattle.resil_input.specs.CsvTable.{table_text}

-- the fields of the header
abbrev pub stats_header : List (List ℕ)
stats_header = codes "name" ∷ codes "caller" ∷ codes "value" ∷ []

-- a number of the whole history, which has no caller
abbrev pub total_fields : List ℕ → ℕ → List (List ℕ)
total_fields name value = name ∷ [] ∷ decimal value ∷ []

-- a span of time in a field: empty if there is none
abbrev pub span_word : Option ℕ → List ℕ
span_word (Some span) = decimal span
span_word None = []

abbrev pub span_fields : List ℕ → Option ℕ → List (List ℕ)
span_fields name span = name ∷ [] ∷ span_word span ∷ []

-- the records of how long jobs waited and ran, and how long idle workers took to come, if that is known
abbrev pub spans_records : Option JdkSpans → List (List (List ℕ))
spans_records None = []
spans_records (Some spans) =
    span_fields (codes "wait_median") spans.waits.median
    ∷ span_fields (codes "wait_p99") spans.waits.p99
    ∷ span_fields (codes "wait_most") spans.waits.most
    ∷ span_fields (codes "run_median") spans.runs.median
    ∷ span_fields (codes "run_p99") spans.runs.p99
    ∷ span_fields (codes "run_most") spans.runs.most
    ∷ span_fields (codes "wake_median") spans.wakes.median
    ∷ span_fields (codes "wake_p99") spans.wakes.p99
    ∷ []

-- a number of a caller
abbrev pub caller_fields : List ℕ → ℕ → ℕ → List (List ℕ)
caller_fields name caller value = name ∷ decimal caller ∷ decimal value ∷ []

-- what one caller submitted
abbrev pub caller_records : ℕ × CallerStats → List (List (List ℕ))
caller_records entry =
    caller_fields (codes "submissions") entry.0 entry.1.submissions
    ∷ caller_fields (codes "accepted") entry.0 entry.1.accepted
    ∷ caller_fields (codes "refused") entry.0 entry.1.refused
    ∷ []

-- what each caller submitted, in the order of the table
abbrev pub callers_records : List (ℕ × CallerStats) → List (List (List ℕ))
callers_records callers = flat_map caller_records callers

-- a verdict in a field
abbrev pub verdict_word : Verdict → List ℕ
verdict_word Legal = codes "legal"
verdict_word (FirstIllegal position) = codes "illegal " ++ decimal position

abbrev pub verdict_fields : Verdict → List (List ℕ)
verdict_fields verdict = codes "verdict" ∷ [] ∷ verdict_word verdict ∷ []

-- the records of the numbers of the whole history: how often each kind of event happened; the greatest numbers of jobs that waited, of jobs
-- that ran, and of workers; the jobs that never started; and how many submissions were refused or got an extra worker while a worker was
-- idle
abbrev pub total_records : JdkStats → List (List (List ℕ))
total_records stats =
    total_fields (codes "submissions") stats.answers.submissions
    ∷ total_fields (codes "core") stats.answers.core
    ∷ total_fields (codes "queued") stats.answers.queued
    ∷ total_fields (codes "extra") stats.answers.extra
    ∷ total_fields (codes "full") stats.answers.full
    ∷ total_fields (codes "closed") stats.answers.closed
    ∷ total_fields (codes "taken") stats.counts.taken
    ∷ total_fields (codes "finished") stats.counts.finished
    ∷ total_fields (codes "idle_ends") stats.counts.idle_ends
    ∷ total_fields (codes "resizes") stats.counts.resizes
    ∷ total_fields (codes "most_waiting") stats.most.waiting
    ∷ total_fields (codes "most_running") stats.most.running
    ∷ total_fields (codes "most_workers") stats.most.workers
    ∷ total_fields (codes "never_started") stats.never_started
    ∷ total_fields (codes "refused_idle") stats.answers.refused_idle
    ∷ total_fields (codes "extra_idle") stats.answers.extra_idle
    ∷ []

-- the records that only version 4 has words for, if the history is in that version
abbrev pub whole_records : JdkStats → Bool → List (List (List ℕ))
whole_records stats false = []
whole_records stats true =
    total_fields (codes "first") stats.answers.first
    ∷ total_fields (codes "handed") stats.answers.handed
    ∷ total_fields (codes "started") stats.counts.started
    ∷ total_fields (codes "culled") stats.counts.culled
    ∷ total_fields (codes "removed") stats.counts.removed
    ∷ total_fields (codes "stops") stats.counts.stops
    ∷ total_fields (codes "time_outs") stats.counts.time_outs
    ∷ []

-- the records of the numbers of a history, under the header: those of the whole history, the spans of time if they are known, the callers,
-- and the verdict
abbrev pub stats_records : JdkStats → Option JdkSpans → Bool → List (List (List ℕ))
stats_records stats spans is_whole =
    total_records stats ++ (whole_records stats is_whole ++ (spans_records spans ++ (callers_records stats.callers.entries ++ verdict_fields stats.verdict ∷ [])))

abbrev pub stats_text : JdkStats → Option JdkSpans → Bool → List ℕ
stats_text stats spans is_whole = table_text (stats_header ∷ stats_records stats spans is_whole)

-- One text is another one followed by this.
pub record IsExtended (old new part : List ℕ) : Type 0 where
  pub is : new ≡ old ++ part
