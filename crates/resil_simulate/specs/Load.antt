-- The jobs of a load, by the rows of its body or by a history, and why there are none.
use Rattle.std.specs.Prelude.{ℕ, suc, ◌≡◌, ◌≤◌, ◌<◌, ◌+◌, ◌-◌, ◌*◌, ◌^◌, List, Some, None, length, map, max, slice_get, slice_index, sum, take}
use Rattle.std.specs.List.{enumerate_from}
use Rattle.resil_rule.specs.Timed.{AreAscending, GoesBackAt}
use Rattle.resil_jdk.specs.declared.event.JdkEvent.{JdkEvent}
use Rattle.resil_jdk.specs.Timed.{events_in, times_in}
use Rattle.resil_jdk.specs.declared.timed.TimedJdkEvent.{TimedJdkEvent}
use Rattle.resil_virtual.specs.Load.{earliest_ends_of, latest, runs_of, times_of}
use Rattle.resil_virtual.specs.declared.arrival.Arrival.{Arrival}
use Rattle.resil_simulate.specs.History.{arrivals_by, first_without, submissions_in}
use Rattle.resil_simulate.specs.Legality.{IsIllegalAt, IsLegalSomewhere}
use Rattle.resil_simulate.specs.declared.head.Terms.{Terms}
use Rattle.resil_simulate.specs.declared.head.Ways.{Ways}
use Rattle.resil_simulate.specs.declared.history.SubmittedJob.{SubmittedJob}
use Rattle.resil_simulate.specs.declared.rows.LoadRow.{LoadRow}
use Rattle.resil_heads.specs.declared.error.HeadError.TheVariants.{BadValue}
use Rattle.resil_heads.specs.declared.refusal.LoadRefusal.TheVariants.{NoTakes, Illegal, TimeGoesBack, TimeTooLate}
use Rattle.resil_heads.specs.declared.refusal.InputRefusal.{InputRefusal}
use Rattle.resil_heads.specs.declared.refusal.InputRefusal.TheVariants as refusal

-- the job of a row at a place, from 1: the submission of caller 1 that has this number
abbrev pub arrival_at : ℕ × LoadRow → Arrival
arrival_at placed = record { id = record { caller = 1; number = placed.0 }; at = placed.1.at; takes = placed.1.takes; earliest_end = 0 }

abbrev pub arrivals_of : List LoadRow → List Arrival
arrivals_of rows = map arrival_at (enumerate_from 1 rows)

-- for the job at an index, the sum of: its time, or the latest of the earliest ends up to and with its own, if that is later; all runs up
-- to and with its own; a time to wake for each of these; and the time after which an idle worker may end
abbrev pub end_of : Ways → List Arrival → ℕ → ℕ
end_of ways arrivals index =
    max (slice_index (times_of arrivals) index) (latest (earliest_ends_of (take (suc index) arrivals))) + sum (runs_of (take (suc index) arrivals)) + ways.wakes * suc index + ways.idle_for

-- for each job that is a number of 64 bits
abbrev pub AreInTime : Ways → List Arrival → Type 0
AreInTime ways arrivals = (k : ℕ) → k < length arrivals → end_of ways arrivals k < 2 ^ 64

-- This is the position, from 1, of the first job for which it isn't.
pub record IsTooLateAt (ways : Ways) (arrivals : List Arrival) (position : ℕ) : Type 0 where
  pub within : (1 ≤ position) × (position ≤ length arrivals)
  pub late : 2 ^ 64 ≤ end_of ways arrivals (position - 1)
  pub first : (k : ℕ) → k + 1 < position → end_of ways arrivals k < 2 ^ 64

-- why the jobs of rows aren't a load: a time is below the one before; or none is, and a job comes too late
abbrev pub IsLoadRefusal : Ways → List Arrival → InputRefusal → Type 0
IsLoadRefusal ways arrivals (refusal.Load position TimeGoesBack) = GoesBackAt (times_of arrivals) position
IsLoadRefusal ways arrivals (refusal.Load position TimeTooLate) = AreAscending (times_of arrivals) × IsTooLateAt ways arrivals position
IsLoadRefusal ways arrivals why = ⊥

-- Histories.

-- the events that restate the state in which a history begins
abbrev pub restated_in : ℕ → List TimedJdkEvent → List JdkEvent
restated_in restated history = take restated (events_in history)

-- the jobs of a history
abbrev pub jobs_in : Terms → List TimedJdkEvent → List Arrival
jobs_in terms history = arrivals_by terms (restated_in terms.made history) (submissions_in terms.made history)

-- A history that can be carried out: no more events restate a state than there are, each of its jobs has a run, some pool has it, and its times ascend.
pub record IsUsable (terms : Terms) (history : List TimedJdkEvent) : Type 0 where
  pub made : terms.made ≤ length history
  pub runs : first_without terms (submissions_in terms.made history) ≡ None
  pub legal : IsLegalSomewhere (events_in history)
  pub ascending : AreAscending (times_in history)

-- why a history can't be carried out: the first of the four that doesn't hold, at its first row
abbrev pub IsHistoryRefusal : Terms → List TimedJdkEvent → InputRefusal → Type 0
IsHistoryRefusal terms history (refusal.Head BadValue) = length history < terms.made
IsHistoryRefusal terms history (refusal.Load position NoTakes) = (terms.made ≤ length history) × (first_without terms (submissions_in terms.made history) ≡ Some position)
IsHistoryRefusal terms history (refusal.Load position Illegal) =
    (terms.made ≤ length history) × (first_without terms (submissions_in terms.made history) ≡ None) × IsIllegalAt (events_in history) position
IsHistoryRefusal terms history (refusal.Load position TimeGoesBack) =
    (terms.made ≤ length history) × (first_without terms (submissions_in terms.made history) ≡ None) × IsLegalSomewhere (events_in history) × GoesBackAt (times_in history) position
IsHistoryRefusal terms history why = ⊥

-- why the jobs of submissions aren't a load: one comes too late, and its submission is at this position
abbrev pub IsLateRefusal : Ways → List Arrival → List SubmittedJob → InputRefusal → Type 0
IsLateRefusal ways arrivals jobs (refusal.Load position TimeTooLate) =
    (job : ℕ) × IsTooLateAt ways arrivals job × (slice_get (map (λ submission. submission.place) jobs) (job - 1) ≡ Some position)
IsLateRefusal ways arrivals jobs why = ⊥

-- why its jobs aren't a load: it can't be carried out; or it can, and a job comes too late
abbrev pub IsHistoryLoadRefusal : Ways → Terms → List TimedJdkEvent → InputRefusal → Type 0
IsHistoryLoadRefusal ways terms history (refusal.Load position TimeTooLate) =
    IsUsable terms history × IsLateRefusal ways (jobs_in terms history) (submissions_in terms.made history) (refusal.Load position TimeTooLate)
IsHistoryLoadRefusal ways terms history why = IsHistoryRefusal terms history why
