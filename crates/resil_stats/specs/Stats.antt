-- The numbers of a history by the whole rule: how long filters over its events are, and the greatest of a number over its prefixes.
use Rattle.std.specs.Prelude.{ℕ, ◌≡◌, ◌<◌, ◌≤◌, ◌+◌, ◌-◌, ◌^◌, ◌==◌, ◌++◌, ◌∷◌, [], Bool, true, false, not, List, Option, Some, None, if◌then◌else◌, length, filter, take, drop, nat_lt}
use Rattle.std.specs.BTreeMap.{BTreeMap, IsOrdered, get}
use Rattle.std.specs.List.{cons_option}
use Rattle.std.specs.Ordering.{nat_cmp}
use Rattle.resil_rule.specs.Limits.{Sizes}
use Rattle.resil_rule.specs.History.{is_among}
use Rattle.resil_rule.specs.declared.event.Id.{Id}
use Rattle.resil_rule.specs.declared.verdict.Verdict.{Verdict}
use Rattle.resil_rule.specs.declared.verdict.Verdict.TheVariants.{Legal, FirstIllegal}
use Rattle.resil_jdk.specs.Admission.{IsLegal}
use Rattle.resil_jdk.specs.History.{accepted, finished, is_begin, is_end, left, queued, removed, run_at_once, running, submissions, taken, waiting, workers}
use Rattle.resil_jdk.specs.declared.event.JdkReply.{JdkReply}
use Rattle.resil_jdk.specs.declared.event.JdkReply.TheVariants.{Core, First, Queued, Handed, Extra, Full, Closed}
use Rattle.resil_jdk.specs.declared.event.JdkEvent.{JdkEvent}
use Rattle.resil_jdk.specs.declared.event.JdkEvent.TheVariants.{Submit, IdleEnd, Resized, Start, Cull, Stop, TimeOut}
use Rattle.resil_stats.specs.declared.stats.CallerStats.{CallerStats}
use Rattle.resil_stats.specs.declared.stats.Load.{Load}
use Rattle.resil_stats.specs.declared.stats.JdkAnswers.{JdkAnswers}
use Rattle.resil_stats.specs.declared.stats.JdkCounts.{JdkCounts}
use Rattle.resil_stats.specs.declared.stats.JdkStats.{JdkStats}

-- ---- Events and those before them.

-- the events of a history that are counted: all if it is legal, else those before the first illegal one
abbrev pub legal_part : {A : Type 0} → Verdict → List A → List A
legal_part Legal history = history
legal_part (FirstIllegal position) history = take (position - 1) history

-- what is made of each event and all events before it, if anything is
abbrev pub made_after : {A : Type 0} → (List JdkEvent → JdkEvent → Option A) → List JdkEvent → List JdkEvent → List A
made_after f before [] = []
made_after f before (e ∷ events) = cons_option (f before e) (made_after f (before ++ e ∷ []) events)

-- how many workers run no job
abbrev pub idle : List JdkEvent → ℕ
idle history = workers history - length (running history)

-- whether some worker runs no job
abbrev pub has_idle : List JdkEvent → Bool
has_idle history = nat_lt 0 (idle history)

-- the job of a submission that was refused since the pool was full, though a worker was idle before it
abbrev pub refused_idle : List JdkEvent → JdkEvent → Option Id
refused_idle before (Submit id Full) = if has_idle before then Some id else None
refused_idle before _ = None

-- the job of a submission that got a worker above the core size, though a worker was idle before it
abbrev pub extra_idle : List JdkEvent → JdkEvent → Option Id
extra_idle before (Submit id Extra) = if has_idle before then Some id else None
extra_idle before _ = None

-- ---- Kinds of events.

-- a submission, with any reply
abbrev pub is_submit : JdkEvent → Bool
is_submit (Submit id reply) = true
is_submit _ = false

abbrev pub is_core : JdkEvent → Bool
is_core (Submit id Core) = true
is_core _ = false

abbrev pub is_first : JdkEvent → Bool
is_first (Submit id First) = true
is_first _ = false

abbrev pub is_queued : JdkEvent → Bool
is_queued (Submit id Queued) = true
is_queued _ = false

abbrev pub is_handed : JdkEvent → Bool
is_handed (Submit id Handed) = true
is_handed _ = false

abbrev pub is_extra : JdkEvent → Bool
is_extra (Submit id Extra) = true
is_extra _ = false

abbrev pub is_full : JdkEvent → Bool
is_full (Submit id Full) = true
is_full _ = false

-- a submission that was refused since the pool was closed
abbrev pub is_refused_closed : JdkEvent → Bool
is_refused_closed (Submit id Closed) = true
is_refused_closed _ = false

abbrev pub is_idle_end : JdkEvent → Bool
is_idle_end IdleEnd = true
is_idle_end _ = false

abbrev pub is_resize : JdkEvent → Bool
is_resize (Resized core max) = true
is_resize _ = false

abbrev pub is_start : JdkEvent → Bool
is_start Start = true
is_start _ = false

abbrev pub is_cull : JdkEvent → Bool
is_cull Cull = true
is_cull _ = false

abbrev pub is_stop : JdkEvent → Bool
is_stop Stop = true
is_stop _ = false

abbrev pub is_time_out : JdkEvent → Bool
is_time_out (TimeOut on) = true
is_time_out _ = false

-- ---- Numbers of a history.

-- What some submissions were answered, which follow other events.
pub record AreAnswersOf (before events : List JdkEvent) (answers : JdkAnswers) : Type 0 where
  pub submissions : answers.submissions ≡ length (filter is_submit events)
  pub core : answers.core ≡ length (filter is_core events)
  pub queued : answers.queued ≡ length (filter is_queued events)
  pub extra : answers.extra ≡ length (filter is_extra events)
  pub full : answers.full ≡ length (filter is_full events)
  pub closed : answers.closed ≡ length (filter is_refused_closed events)
  pub first : answers.first ≡ length (filter is_first events)
  pub handed : answers.handed ≡ length (filter is_handed events)
  pub refused_idle : answers.refused_idle ≡ length (made_after refused_idle before events)
  pub extra_idle : answers.extra_idle ≡ length (made_after extra_idle before events)

-- How often each event happened that isn't a submission.
pub record AreJdkCountsOf (history : List JdkEvent) (counts : JdkCounts) : Type 0 where
  pub taken : counts.taken ≡ length (taken history)
  pub finished : counts.finished ≡ length (finished history)
  pub idle_ends : counts.idle_ends ≡ length (filter is_idle_end history)
  pub resizes : counts.resizes ≡ length (filter is_resize history)
  pub started : counts.started ≡ length (filter is_start history)
  pub culled : counts.culled ≡ length (filter is_cull history)
  pub removed : counts.removed ≡ length (removed history)
  pub stops : counts.stops ≡ length (filter is_stop history)
  pub time_outs : counts.time_outs ≡ length (filter is_time_out history)

-- How many jobs wait and run after a history, and how many workers there are.
pub record IsJdkLoadAfter (history : List JdkEvent) (load : Load) : Type 0 where
  pub waiting : load.waiting ≡ length (waiting history)
  pub running : load.running ≡ length (running history)
  pub workers : load.workers ≡ workers history

-- The greatest of a number over the prefixes of a history, the empty one too: none has more, and one has as much.
pub record IsMost {E : Type 0} (number : List E → ℕ) (history : List E) (most : ℕ) : Type 0 where
  pub bound : (count : ℕ) → number (take count history) ≤ most
  pub reached : (count : ℕ) × (number (take count history) ≡ most)

-- the greatest number of each kind over the prefixes of a history
pub record AreJdkMost (history : List JdkEvent) (most : Load) : Type 0 where
  pub waiting : IsMost (λ events. length (waiting events)) history most.waiting
  pub running : IsMost (λ events. length (running events)) history most.running
  pub workers : IsMost workers history most.workers

-- the accepted jobs that no worker ran: none ran them at once, and none took them
abbrev pub never_started : List JdkEvent → List Id
never_started history = filter (λ id. not (is_among id (run_at_once history ++ taken history))) (accepted history)

-- a refused submission of a caller
abbrev pub is_refused_of : ℕ → JdkEvent → Bool
is_refused_of caller (Submit id Full) = id.caller == caller
is_refused_of caller (Submit id Closed) = id.caller == caller
is_refused_of caller _ = false

abbrev pub refused_of : List JdkEvent → ℕ → List JdkEvent
refused_of history caller = filter (is_refused_of caller) history

-- the accepted jobs of a caller
abbrev pub accepted_of : List JdkEvent → ℕ → List Id
accepted_of history caller = filter (λ id. id.caller == caller) (accepted history)

-- the numbers of a caller that submitted
abbrev pub caller_stats : List JdkEvent → ℕ → Option CallerStats
caller_stats history caller =
    if length (submissions history caller) == 0 then None
    else Some (record {
      submissions = length (submissions history caller);
      accepted = length (accepted_of history caller);
      refused = length (refused_of history caller);
    })

-- A table has the numbers of each caller that submitted, and of no other caller.
abbrev pub AreJdkCallersOf : List JdkEvent → BTreeMap ℕ CallerStats → Type 0
AreJdkCallersOf history callers = (caller : ℕ) → get nat_cmp callers caller ≡ caller_stats history caller

-- The numbers of legal events. The first of them restate the state in which a record begins, and their submissions aren't counted.
pub record AreJdkStatsOf (restated : ℕ) (history : List JdkEvent) (stats : JdkStats) : Type 0 where
  pub answers : AreAnswersOf (take restated history) (drop restated history) stats.answers
  pub counts : AreJdkCountsOf history stats.counts
  pub most : AreJdkMost history stats.most
  pub never_started : stats.never_started ≡ length (never_started history)
  pub callers : AreJdkCallersOf (drop restated history) stats.callers
  pub ascending : IsOrdered nat_cmp stats.callers

-- ---- What is kept while a history is gone over.

-- a reply by which a job is accepted
abbrev pub is_accepting : JdkReply → Bool
is_accepting Full = false
is_accepting Closed = false
is_accepting _ = true

-- one more may be added to each of a caller's numbers
abbrev pub HasRoomFor : CallerStats → Type 0
HasRoomFor stats = (stats.submissions + 1 < 2 ^ 64) × (stats.accepted + 1 < 2 ^ 64) × (stats.refused + 1 < 2 ^ 64)

-- a caller's numbers with one more submission, which is accepted or refused
abbrev pub with_submission : CallerStats → Bool → CallerStats
with_submission stats true = record stats { submissions = stats.submissions + 1; accepted = stats.accepted + 1 }
with_submission stats false = record stats { submissions = stats.submissions + 1; refused = stats.refused + 1 }

-- the answers are those of some events that may be followed by one more
abbrev pub MayBeAnswered : JdkAnswers → Type 0
MayBeAnswered answers = (before : List JdkEvent) × (events : List JdkEvent) × AreAnswersOf before events answers × (length events + 1 < 2 ^ 64)

-- the counts are those of a history that may have one more event
abbrev pub MayBeCounted : JdkCounts → Type 0
MayBeCounted counts = (history : List JdkEvent) × AreJdkCountsOf history counts × (length history + 1 < 2 ^ 64)

-- the load is the one after a history that the event may follow
abbrev pub MayCome : Load → JdkEvent → Type 0
MayCome load event = (limits : Sizes) × (history : List JdkEvent) × IsLegal limits (history ++ event ∷ []) × IsJdkLoadAfter history load × (length history + 1 < 2 ^ 64)

-- How an event changes a load, in the words of the history of this event alone.
pub record IsMoved (load : Load) (event : JdkEvent) (after : Load) : Type 0 where
  pub waiting : after.waiting + length (left (event ∷ [])) ≡ load.waiting + length (queued (event ∷ []))
  pub running : after.running + length (finished (event ∷ [])) ≡ load.running + (length (run_at_once (event ∷ [])) + length (taken (event ∷ [])))
  pub workers : after.workers + length (filter is_end (event ∷ [])) ≡ load.workers + length (filter is_begin (event ∷ []))

-- An event may change a load: what it takes away is there, and what it adds has room.
pub record MayMove (load : Load) (event : JdkEvent) : Type 0 where
  pub waiting : length (left (event ∷ [])) ≤ load.waiting
  pub running : length (finished (event ∷ [])) ≤ load.running
  pub workers : length (filter is_end (event ∷ [])) ≤ load.workers
  pub room : (load.waiting + 1 < 2 ^ 64) × (load.running + 1 < 2 ^ 64) × (load.workers + 1 < 2 ^ 64)
