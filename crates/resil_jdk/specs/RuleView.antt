-- What contracts see of the rule: what it keeps, and nothing of a history.
use Rattle.std.specs.Prelude.{ℕ, suc, ◌≡◌, ◌<◌, ◌+◌, ◌==◌, ◌&&◌, ◌||◌, ◌⊎◌, Bool, true, false, List, ◌++◌, ◌∷◌, [], Some, length, filter, nat_lt, slice_get, slice_index_or, if◌then◌else◌}
use Rattle.std.specs.List.{filter_map}
use Rattle.resil_rule.specs.Limits.{Sizes}
use Rattle.resil_rule.specs.History.{is_among, times, last_size}
use Rattle.resil_rule.specs.declared.event.Id.{Id}
use Rattle.resil_jdk.specs.Limits.{AreSizesWithin}
use Rattle.resil_jdk.specs.History.{run_at_once, queued, taken, left, finished, is_closed, is_stopped, is_begin, is_end, is_submit_of, new_core, new_max, new_time_out, last_setting}
use Rattle.resil_jdk.specs.declared.event.JdkReply.{JdkReply}
use Rattle.resil_jdk.specs.declared.event.JdkReply.TheVariants.{Core, First, Queued, Handed, Extra, Full, Closed}
use Rattle.resil_jdk.specs.declared.event.JdkEvent.{JdkEvent}
use Rattle.resil_jdk.specs.declared.event.JdkEvent.TheVariants.{Submit, Take, Finish, IdleEnd, Close, Resized, Start, Cull, Remove, Stop, TimeOut}

-- The sizes of the opening and now, whether core workers time out, whether the pool is closed and stopped, and how many workers there are;
-- the line of the jobs that were queued, oldest first, which may have some that have left the queue; the jobs that wait, and those that
-- run, in any order; and how many submissions each caller made.
pub record JdkView : Type 0 where
  pub limits : Sizes
  pub core : ℕ
  pub max : ℕ
  pub time_out : Bool
  pub closed : Bool
  pub stopped : Bool
  pub workers : ℕ
  pub line : List Id
  pub waits : List Id
  pub runs : List Id
  pub made : List ℕ

-- a pool that was just opened
abbrev pub opened : Sizes → JdkView
opened limits = record {
  limits = limits;
  core = limits.core;
  max = limits.max;
  time_out = false;
  closed = false;
  stopped = false;
  workers = 0;
  line = [];
  waits = [];
  runs = [];
  made = [];
}

-- how many submissions a caller made
abbrev pub made_by : JdkView → ℕ → ℕ
made_by v caller = slice_index_or v.made caller 0

-- the jobs in the queue, oldest first: those in the line that wait
abbrev pub queue_of : JdkView → List Id
queue_of v = filter (λ id. is_among id v.waits) v.line

-- how many workers stay when nothing waits
abbrev pub kept : JdkView → ℕ
kept v = if v.time_out then 0 else v.core

-- the answer to the next submission: the first case that fits
abbrev pub next_reply : JdkView → JdkReply
next_reply v =
    if v.closed then Closed
    else if nat_lt v.workers v.core then Core
    else if nat_lt (length v.waits) v.limits.queue then (if v.workers == 0 then First else Queued)
    else if (v.limits.queue == 0) && nat_lt (length v.runs) v.workers then Handed
    else if nat_lt v.workers v.max then Extra
    else Full

-- the jobs that a submission with this answer joins
abbrev pub joined : JdkView → JdkReply → List Id
joined v Core = v.runs
joined v First = v.waits
joined v Queued = v.waits
joined v Handed = v.runs
joined v Extra = v.runs
joined v Full = []
joined v Closed = []

-- what an event asks of the rule
abbrev pub May : JdkView → JdkEvent → Type 0
May v (Submit id reply) = (id.number ≡ suc (made_by v id.caller)) × (reply ≡ next_reply v) × (is_among id (joined v reply) ≡ false)
May v (Take id) = (slice_get (queue_of v) 0 ≡ Some id) × (length v.runs < v.workers) × (v.stopped ≡ false) × (is_among id v.runs ≡ false)
May v (Finish id) = is_among id v.runs ≡ true
May v IdleEnd = (length v.waits ≡ 0) × (length v.runs < v.workers) × ((kept v < v.workers) ⊎ (v.closed ≡ true))
May v Close = v.closed ≡ false
May v (Resized core max) = AreSizesWithin v.limits core max
May v Start = (v.workers < v.core) × (v.stopped ≡ false) × ((v.closed ≡ false) ⊎ (0 < length v.waits))
May v Cull = (length v.runs < v.workers) × ((v.max < v.workers) ⊎ (v.stopped ≡ true))
May v (Remove id) = is_among id v.waits ≡ true
May v Stop = v.stopped ≡ false
May v (TimeOut on) = Unit {0}

-- How an event changes the state, in the words of the history of this event alone.
pub record IsStep (v : JdkView) (e : JdkEvent) (after : JdkView) : Type 0 where
  pub limits : after.limits ≡ v.limits
  pub core : after.core ≡ last_size v.core (filter_map new_core (e ∷ []))
  pub max : after.max ≡ last_size v.max (filter_map new_max (e ∷ []))
  pub time_out : after.time_out ≡ last_setting v.time_out (filter_map new_time_out (e ∷ []))
  pub closed : after.closed ≡ (v.closed || is_closed (e ∷ []))
  pub stopped : after.stopped ≡ (v.stopped || is_stopped (e ∷ []))
  pub workers : after.workers + length (filter is_end (e ∷ [])) ≡ v.workers + length (filter is_begin (e ∷ []))
  pub line : after.line ≡ v.line ++ queued (e ∷ [])
  pub waits : (x : Id) → times x after.waits + times x (left (e ∷ [])) ≡ times x v.waits + times x (queued (e ∷ []))
  pub runs : (x : Id) → times x after.runs + times x (finished (e ∷ [])) ≡ times x v.runs + times x (run_at_once (e ∷ [])) + times x (taken (e ∷ []))
  pub made : (caller : ℕ) → made_by after caller ≡ made_by v caller + (if is_submit_of caller e then 1 else 0)

-- The line has no new job, and the jobs in it that wait are in the same order.
pub record IsSameQueue (waits before after : List Id) : Type 0 where
  pub queue : filter (λ id. is_among id waits) after ≡ filter (λ id. is_among id waits) before
  pub line : (x : Id) → is_among x after ≡ true → is_among x before ≡ true

-- Nothing is changed but room: some jobs that have left the queue may have left the line, and callers may be counted that made no
-- submission.
pub record IsTidied (v after : JdkView) : Type 0 where
  pub rest : after ≡ record v { line = after.line; made = after.made }
  pub queue : IsSameQueue v.waits v.line after.line
  pub made : (caller : ℕ) → made_by after caller ≡ made_by v caller

-- a worker that begins by a submission with this answer
abbrev pub begins : JdkReply → ℕ
begins Core = 1
begins First = 1
begins Extra = 1
begins _ = 0

-- A job is where its answer says: it waits as the last in the line, or it runs; and a worker has begun.
pub record IsPlaced (v : JdkView) (id : Id) (reply : JdkReply) (after : JdkView) : Type 0 where
  pub rest : after ≡ record v { workers = v.workers + begins reply; line = v.line ++ queued (Submit id reply ∷ []); waits = after.waits; runs = after.runs; made = after.made }
  pub waits : (x : Id) → times x after.waits ≡ times x v.waits + times x (queued (Submit id reply ∷ []))
  pub runs : (x : Id) → times x after.runs ≡ times x v.runs + times x (run_at_once (Submit id reply ∷ []))
