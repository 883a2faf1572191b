-- The jobs of a history: its submissions, with replies of every kind, each with how long it ran there.
use Rattle.std.specs.Prelude.{ℕ, suc, ◌≡◌, ◌<◌, ◌-◌, ◌+◌, ◌*◌, ◌^◌, Bool, false, List, Option, Some, None, drop, find, is_none, length, map, option_map, unwrap_or}
use Rattle.std.specs.BTreeMap.{BTreeMap, get}
use Rattle.std.specs.List.{enumerate_from, filter_map}
use Rattle.std.specs.Option.{option_map_or}
use Rattle.std.specs.Ordering.{nat_cmp}
use Rattle.resil_rule.specs.History.{is_same_id, last_size}
use Rattle.resil_rule.specs.declared.event.Id.{Id}
use Rattle.resil_rule.specs.declared.timed.Timed.{Timed}
use Rattle.resil_jdk.specs.FromRule.{jdk_event}
use Rattle.resil_jdk.specs.History.{finished_id, submissions}
use Rattle.resil_jdk.specs.declared.event.JdkEvent.{JdkEvent}
use Rattle.resil_jdk.specs.declared.event.JdkEvent.TheVariants.{Submit}
use Rattle.resil_jdk.specs.Timed.{times_in}
use Rattle.resil_jdk.specs.declared.timed.TimedJdkEvent.{TimedJdkEvent}
use Rattle.resil_stats.specs.Spans.{started_id}
use Rattle.resil_virtual.specs.declared.arrival.Arrival.{Arrival}
use Rattle.resil_simulate.specs.declared.head.Terms.{Terms}
use Rattle.resil_simulate.specs.declared.head.Unfinished.{Unfinished}
use Rattle.resil_simulate.specs.declared.head.Unfinished.TheVariants.{Run, Takes}
use Rattle.resil_simulate.specs.declared.history.JobMoment.{JobMoment}
use Rattle.resil_simulate.specs.declared.history.JobMoment.TheVariants.{Start, Finish}
use Rattle.resil_simulate.specs.declared.history.Ran.{Ran}
use Rattle.resil_simulate.specs.declared.history.Ran.TheVariants.{Whole, Cut, Never}
use Rattle.resil_simulate.specs.declared.history.SubmittedJob.{SubmittedJob}

-- a history in version 3, in the words of the whole rule
abbrev pub in_whole_words : List Timed → List TimedJdkEvent
in_whole_words history = map (λ timed. record { event = jdk_event timed.event; at = timed.at }) history

-- the job that an event starts, or finishes
abbrev pub job_at : JobMoment → JdkEvent → Option Id
job_at Start event = started_id event
job_at Finish event = finished_id event

abbrev pub is_of : JobMoment → Id → TimedJdkEvent → Bool
is_of moment id timed = option_map_or (is_same_id id) (job_at moment timed.event) false

-- when a job starts, or is finished, for the first time; none if it never does
abbrev pub time_of : JobMoment → List TimedJdkEvent → Id → Option ℕ
time_of moment history id = option_map (λ timed. timed.at) (find (is_of moment id) history)

-- the time of the last event, 0 if there is none
abbrev pub last_at : List TimedJdkEvent → ℕ
last_at history = last_size 0 (times_in history)

-- how long a job ran that started, by when it was finished and when the history ends
abbrev pub ran_from : ℕ → Option ℕ → ℕ → Ran
ran_from start (Some finish) last = Whole (finish - start)
ran_from start None last = Cut (last - start) last

-- how long a job ran: from its start to its finish, or to the last event if it has no finish
abbrev pub ran_of : List TimedJdkEvent → Id → Ran
ran_of history id = option_map_or (λ start. ran_from start (time_of Finish history id) (last_at history)) (time_of Start history id) Never

-- the submission at a place, from 1
abbrev pub submitted_id : JdkEvent → Option Id
submitted_id (Submit id reply) = Some id
submitted_id _ = None

abbrev pub submitted_at : List TimedJdkEvent → ℕ × TimedJdkEvent → Option SubmittedJob
submitted_at history placed =
    option_map (λ id. record { place = placed.0; id = id; at = placed.1.at; ran = ran_of history id }) (submitted_id placed.1.event)

-- The submissions of a history, in order. The first events restate the state in which it begins: their submissions are left out.
abbrev pub submissions_in : ℕ → List TimedJdkEvent → List SubmittedJob
submissions_in restated history = filter_map (submitted_at history) (enumerate_from (suc restated) (drop restated history))

-- ---- How long they run in another pool.

-- how long a job runs by what the head says of those that weren't finished, or never started; none if it doesn't say
abbrev pub cut_by : Unfinished → ℕ → Option ℕ → Option ℕ
cut_by Run us takes = Some us
cut_by Takes us takes = takes

abbrev pub run_by : Terms → Ran → Option ℕ
run_by terms (Whole us) = Some us
run_by terms (Cut us until) = cut_by terms.unfinished us terms.takes
run_by terms Never = terms.takes

-- The earliest moment at which the run of a job may end: the last event of the history, if the job runs on as it did up to then; else there
-- is none.
abbrev pub held_by : Unfinished → ℕ → ℕ
held_by Run until = until
held_by Takes until = 0

abbrev pub earliest_end_by : Terms → Ran → ℕ
earliest_end_by terms (Cut us until) = held_by terms.unfinished until
earliest_end_by terms ran = 0

-- the place of the first submission without any statement of how long it runs
abbrev pub first_without : Terms → List SubmittedJob → Option ℕ
first_without terms jobs = option_map (λ job. job.place) (find (λ job. is_none (run_by terms job.ran)) jobs)

-- the id of a submission after those that are left out: its caller's numbers begin at 1 there
abbrev pub renumbered : List JdkEvent → Id → Id
renumbered restated id = record { caller = id.caller; number = id.number - length (submissions restated id.caller) }

-- a submission as a job of a load
abbrev pub arrival_by : Terms → List JdkEvent → SubmittedJob → Arrival
arrival_by terms restated job = record { id = renumbered restated job.id; at = job.at; takes = unwrap_or (run_by terms job.ran) 0; earliest_end = earliest_end_by terms job.ran }

abbrev pub arrivals_by : Terms → List JdkEvent → List SubmittedJob → List Arrival
arrivals_by terms restated jobs = map (arrival_by terms restated) jobs

-- ---- A table of times.

-- an id as one number
abbrev pub key : Id → ℕ
key id = id.caller * 2 ^ 64 + id.number

-- The table has the time of each job's start, or finish, and no other.
abbrev pub AreTimesOf : JobMoment → List TimedJdkEvent → BTreeMap ℕ ℕ → Type 0
AreTimesOf moment history times = (id : Id) → id.number < 2 ^ 64 → get nat_cmp times (key id) ≡ time_of moment history id
