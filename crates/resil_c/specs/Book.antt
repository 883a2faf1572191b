-- What contracts see of a pool for C, which is its book: which histories it may stand for, what each call does to it, and its numbers.
use Rattle.std.specs.Prelude.{ℕ, ◌≡◌, ◌≤◌, ◌+◌, ◌-◌, ◌^◌, ◌==◌, ◌&&◌, ◌++◌, ◌∷◌, [], not, suc, min, Bool, List, Some, None, Result, Ok, Err, length, filter, slice_get, nat_lt, if◌then◌else◌}
use Rattle.resil_rule.specs.Limits.{Sizes, IsQueue}
use Rattle.resil_rule.specs.Sizes.{AreSizes, IsWideCore, IsWideMax}
use Rattle.resil_rule.specs.History.{accepted, finished, workers, running, waiting, is_closed, core_size, max_size}
use Rattle.resil_rule.specs.Admission.{IsAllowed}
use Rattle.resil_rule.specs.RuleView.{RuleView, opened, busy, made_by, next_reply, is_acceptance, with_submission, with_pick, with_take}
use Rattle.resil_rule.specs.RuleState.{IsStateOf}
use Rattle.resil_rule.specs.Record.{LastView, IsLastOf}
use Rattle.resil_rule.specs.declared.slots.Slot.{Slot}
use Rattle.resil_rule.specs.declared.rule.Origin.{Origin}
use Rattle.resil_rule.specs.declared.rule.Origin.TheVariants.{OwnStart, Queue}
use Rattle.resil_rule.specs.declared.error.Refusal.{Refusal}
use Rattle.resil_rule.specs.declared.error.Refusal.TheVariants as refused
use Rattle.resil_rule.specs.declared.event.Id.{Id}
use Rattle.resil_rule.specs.declared.event.Reply.{Reply}
use Rattle.resil_rule.specs.declared.event.Reply.TheVariants as reply
use Rattle.resil_rule.specs.declared.event.Event.{Event}
use Rattle.resil_rule.specs.declared.event.Event.TheVariants.{Submit, Take}
use Rattle.resil_c.specs.declared.pool.plain_data.PoolCounts.{PoolCounts}
use Rattle.resil_c.specs.declared.pool.plain_data.BookError.{BookError}
use Rattle.resil_c.specs.declared.pool.plain_data.BookError.TheVariants as opening

-- what the rule keeps over the callers' jobs; the last events; how many submissions were refused, and how many jobs are finished
pub record BookView : Type 0 where
  pub rule : RuleView ℕ
  pub last : LastView
  pub refused : ℕ
  pub finished : ℕ

-- how far 64 bits count: up to their largest number, which then also means more
abbrev pub in_64_bits : ℕ → ℕ
in_64_bits count = min count (2 ^ 64 - 1)

-- whether an event is a submission that the rule refuses
abbrev pub is_refusal : Event → Bool
is_refusal (Submit id answer) = not (is_acceptance answer)
is_refusal _ = Bool.false

-- the submissions that the rule refused
abbrev pub refusals : List Event → List Event
refusals history = filter is_refusal history

-- The book may stand for the history: its rule does, its last events are the last of the history, and its counts are right as far
-- as 64 bits count. Each accepted job runs, waits or is finished.
pub record IsBookOf (history : List Event) (b : BookView) : Type 0 where
  pub state : IsStateOf history b.rule
  pub last : IsLastOf history b.last
  pub refused_are : b.refused ≡ in_64_bits (length (refusals history))
  pub finished_are : b.finished ≡ in_64_bits (length (finished history))
  pub accepted_are : length (accepted history) ≡ busy b.rule + length b.rule.waiting + length (finished history)

-- One more event: it may follow each history that the book stood for, and the book stands for that history with it.
abbrev pub Follows : BookView → Event → BookView → Type 0
Follows before event after =
    (history : List Event) → IsBookOf history before → IsAllowed before.rule.limits history event × IsBookOf (history ++ event ∷ []) after

-- No event: the book stands for each history that it stood for.
abbrev pub StaysAt : BookView → BookView → Type 0
StaysAt before after = (history : List Event) → IsBookOf history before → IsBookOf history after

-- this many callers may submit: 1 to 65,535
abbrev pub AreCallers : ℕ → Type 0
AreCallers callers = (1 ≤ callers) × (callers ≤ 65535)

-- a book that was just made, for the callers from 1 on and this many of the last events
abbrev pub opened_book : Sizes → ℕ → ℕ → BookView
opened_book sizes callers kept = record {
  rule = opened sizes (callers + 1);
  last = record { events = []; capacity = kept; lost = 0 };
  refused = 0;
  finished = 0;
}

-- why a book isn't made: the first range that is broken, or out of memory if none is
abbrev pub IsOpenRefusal : Sizes → ℕ → BookError → Type 0
IsOpenRefusal sizes callers opening.CoreRange = ¬ IsWideCore sizes.core
IsOpenRefusal sizes callers opening.MaxRange = IsWideCore sizes.core × ¬ IsWideMax sizes.core sizes.max
IsOpenRefusal sizes callers opening.QueueRange = IsWideCore sizes.core × IsWideMax sizes.core sizes.max × ¬ IsQueue sizes.queue
IsOpenRefusal sizes callers opening.CallersRange = AreSizes sizes × ¬ AreCallers callers
IsOpenRefusal sizes callers opening.Memory = AreSizes sizes × AreCallers callers

-- whether a caller has this number: callers are counted from 1
abbrev pub has_caller : BookView → ℕ → Bool
has_caller b caller = nat_lt 0 caller && nat_lt caller (length b.rule.made)

-- the reply of the rule, as an acceptance or a refusal
abbrev pub answer_by_rule : Reply → Result Reply Refusal
answer_by_rule reply.Core = Ok reply.Core
answer_by_rule reply.Queued = Ok reply.Queued
answer_by_rule reply.Extra = Ok reply.Extra
answer_by_rule reply.Full = Err refused.Full
answer_by_rule reply.Closed = Err refused.Closed

-- the answer to a submission: the first case that fits
abbrev pub answer_to : BookView → Id → Result Reply Refusal
answer_to b id =
    if not (has_caller b id.caller) then Err refused.NoSuchCaller
    else if not (id.number == suc (made_by b.rule id.caller)) then Err refused.WrongNumber
    else answer_by_rule (next_reply b.rule)

-- a submission that the rule answered, accepted or refused: it counts, and is an event
abbrev pub IsSubmitted : Id → ℕ → BookView → BookView → Type 0
IsSubmitted id work b c = (c.rule ≡ with_submission b.rule id work (next_reply b.rule)) × Follows b (Submit id (next_reply b.rule)) c

-- the id of a caller's next submission: one more than it has made. After the largest number of 64 bits there is none. The id is then
-- that of the last submission, and is answered as a wrong number.
abbrev pub next_id : BookView → ℕ → Id
next_id b caller = record { caller = caller; number = in_64_bits (made_by b.rule caller + 1) }

-- a submission under its caller's next number
abbrev pub IsNextSubmitted : ℕ → ℕ → BookView → BookView → Type 0
IsNextSubmitted caller work b c = IsSubmitted (next_id b caller) work b c

-- A job was picked and has a place that was free. It is the oldest job with its own worker that wasn't picked yet, which adds no
-- event; if there is none, it is the job at the front of the queue, which is taken.
abbrev pub IsPicked : Origin → Slot → ℕ → BookView → BookView → Type 0
IsPicked OwnStart slot work b c = (slice_get b.rule.out slot.place ≡ Some None) × (slice_get b.rule.unpicked 0 ≡ Some (slot.id, work))
    × (c ≡ record b { rule = with_pick b.rule slot }) × StaysAt b c
IsPicked Queue slot work b c = (slice_get b.rule.out slot.place ≡ Some None) × (b.rule.unpicked ≡ []) × (slice_get b.rule.waiting 0 ≡ Some (slot.id, work))
    × (c.rule ≡ with_take b.rule slot) × Follows b (Take slot.id) c

-- the numbers of a book
abbrev pub counts_of : BookView → PoolCounts
counts_of b = record {
  accepted = in_64_bits (b.finished + (busy b.rule + length b.rule.waiting));
  refused = b.refused;
  finished = b.finished;
  core = b.rule.core;
  max = b.rule.max;
  greatest = b.rule.limits.max;
  capacity = b.rule.limits.queue;
  workers = b.rule.workers;
  running = busy b.rule;
  waiting = length b.rule.waiting;
  closed = if b.rule.closed then 1 else 0;
}

-- The numbers belong to a history: each is its count, as far as the number's bits count.
pub record AreCountsOf (limits : Sizes) (history : List Event) (n : PoolCounts) : Type 0 where
  pub accepted_are : n.accepted ≡ in_64_bits (length (accepted history))
  pub refused_are : n.refused ≡ in_64_bits (length (refusals history))
  pub finished_are : n.finished ≡ in_64_bits (length (finished history))
  pub core_is : n.core ≡ core_size limits history
  pub max_is : n.max ≡ max_size limits history
  pub workers_are : n.workers ≡ workers history
  pub running_are : n.running ≡ length (running history)
  pub waiting_are : n.waiting ≡ length (waiting history)
  pub closed_is : n.closed ≡ (if is_closed history then 1 else 0)
