-- The tally of a history, with one more event, and the numbers that it gives.
use Rattle.std.proofs.Common.{◌≡◌, ◌<◌, ◌+◌, ◌-◌, ◌*◌, ◌^◌, ◌∷◌, [], ◌++◌, ◌∙◌, ℕ, List, if◌then◌else◌, length, max, slice_index, sym, arith, length-append}
use Rattle.std.specs.List.{cons_option}
use Rattle.std.proofs.lemmas.List.{length-map, map_push}
use Rattle.resil_jdk.specs.Admission.{IsLegal}
use Rattle.resil_jdk.specs.Timed.{events_in, times_in}
use Rattle.resil_jdk.specs.declared.event.JdkEvent.{JdkEvent}
use Rattle.resil_jdk.specs.declared.timed.TimedJdkEvent.{TimedJdkEvent}
use Rattle.resil_stats.specs.Stats.{IsJdkLoadAfter}
use Rattle.resil_stats.proofs.LoadLaws.{first-legal}
use Rattle.resil_stats.proofs.MostLaws.{are-most_push}
use Rattle.resil_simulate.specs.Numbers.{HasTimes, is_finish}
use Rattle.resil_simulate.specs.Tally.{AreSubmissionsOf, AreWaitsOf, IsSpentIn, IsTallyOf, IsTimed, queue_by, wait_by}
use Rattle.resil_simulate.specs.declared.tally.Spent.{Spent}
use Rattle.resil_simulate.specs.declared.tally.Tally.{Tally}
use Rattle.resil_simulate.proofs.SpentLaws.{run-now, spent-next, spent-small, workers-now}
use Rattle.resil_simulate.proofs.QueueLaws.{allowed-last, waits-next}
use Rattle.resil_stats.proofs.WaitLaws.{time-last}

pub events-are : (history : List TimedJdkEvent) (timed : TimedJdkEvent) → events_in (history ++ timed ∷ []) ≡ events_in history ++ timed.event ∷ []
events-are history timed = map_push (λ timed. timed.event) history timed

pub times-are : (history : List TimedJdkEvent) (timed : TimedJdkEvent) → times_in (history ++ timed ∷ []) ≡ times_in history ++ timed.at ∷ []
times-are history timed = map_push (λ timed. timed.at) history timed

pub as-many : (history : List TimedJdkEvent) → length (times_in history) ≡ length (events_in history)
as-many history = length-map history _ ∙ sym (length-map history _)

module _ (history : List TimedJdkEvent) (timed : TimedJdkEvent) (has : IsTimed (history ++ timed ∷ [])) where
  abbrev h : List JdkEvent
  h = events_in history

  abbrev ts : List ℕ
  ts = times_in history

  pub legal-next : IsLegal has.legal.0 (h ++ timed.event ∷ [])
  legal-next = rw (events-are history timed) at has.legal.2

  legal-before : IsLegal has.legal.0 h
  legal-before = first-legal has.legal.0 h (timed.event ∷ []) legal-next

  timed-next : HasTimes (h ++ timed.event ∷ []) (ts ++ timed.at ∷ [])
  timed-next = rw (events-are history timed, times-are history timed) at has

  module _ (tally : Tally) (was : IsTallyOf history tally) where
    waits-after : AreWaitsOf (events_in (history ++ timed ∷ [])) (times_in (history ++ timed ∷ [])) (queue_by timed.event timed.at tally.waits.queue.items) (tally.waits.done.items ++ cons_option (wait_by timed.event timed.at tally.waits.queue.items) [])
    waits-after = rw (events-are history timed, times-are history timed)
        (waits-next has.legal.0 h legal-before ts timed.at (as-many history) tally.waits.queue.items tally.waits.done.items was.waits timed.event (allowed-last has.legal.0 [] h timed.event legal-next))

    -- what the time to the event adds is a small number
    pub small-next : timed.at < 2 ^ 64
        → (tally.spent.so_far.run_time + tally.load.running * (timed.at - tally.spent.time) < 2 ^ 128) × (tally.spent.so_far.worker_time + tally.load.workers * (timed.at - tally.spent.time) < 2 ^ 128)
    small-next fits =
        let many : length (h ++ timed.event ∷ []) ≡ length h + 1 = length-append h (timed.event ∷ []) in
        let same = as-many history in
        let last : timed.at ≡ slice_index (ts ++ timed.at ∷ []) (length (ts ++ timed.at ∷ []) - 1) = sym (time-last ts timed.at _ (omega (arith, length-append ts (timed.at ∷ [])))) in
        let small = spent-small (h ++ timed.event ∷ []) (ts ++ timed.at ∷ []) timed-next timed.at last fits (length h) (omega (arith, many)) in
        let run = run-now h timed.event ts timed.at same tally.load was.load tally.spent was.spent in
        let work = workers-now h timed.event ts timed.at same tally.load was.load tally.spent was.spent in
        (omega (arith, small, run), omega (arith, small, work))

    spent-after : (now : Spent) → now.time ≡ timed.at → now.so_far.run_time ≡ tally.spent.so_far.run_time + tally.load.running * (timed.at - tally.spent.time)
        → now.so_far.worker_time ≡ tally.spent.so_far.worker_time + tally.load.workers * (timed.at - tally.spent.time) → now.finished ≡ (if is_finish timed.event then now.so_far else tally.spent.finished)
        → IsSpentIn (events_in (history ++ timed ∷ [])) (times_in (history ++ timed ∷ [])) now
    spent-after now time run work finished =
        rw (events-are history timed, times-are history timed) (spent-next h timed.event ts timed.at (as-many history) tally.load was.load tally.spent was.spent now time run work finished)

    -- the tally with the event
    pub tally-next : (now : Tally)
        → AreSubmissionsOf (h ++ timed.event ∷ []) now.submissions
        → IsJdkLoadAfter (h ++ timed.event ∷ []) now.load
        → (now.most.waiting ≡ max tally.most.waiting now.load.waiting) × (now.most.running ≡ max tally.most.running now.load.running) × (now.most.workers ≡ max tally.most.workers now.load.workers)
        → now.waits.queue.items ≡ queue_by timed.event timed.at tally.waits.queue.items
        → now.waits.done.items ≡ tally.waits.done.items ++ cons_option (wait_by timed.event timed.at tally.waits.queue.items) []
        → now.spent.time ≡ timed.at
        → now.spent.so_far.run_time ≡ tally.spent.so_far.run_time + tally.load.running * (timed.at - tally.spent.time)
        → now.spent.so_far.worker_time ≡ tally.spent.so_far.worker_time + tally.load.workers * (timed.at - tally.spent.time)
        → now.spent.finished ≡ (if is_finish timed.event then now.spent.so_far else tally.spent.finished)
        → IsTallyOf (history ++ timed ∷ []) now
    tally-next now submissions load most queue done time run work finished = record {
      submissions = rw (events-are history timed) submissions;
      load = rw (events-are history timed) load;
      most = rw (events-are history timed) (are-most_push h timed.event tally.most now.load now.most most.0 most.1 most.2 load was.most);
      waits = rw (queue, done) waits-after;
      spent = spent-after now.spent time run work finished;
    }
