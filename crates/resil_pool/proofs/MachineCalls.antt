-- What the acts of the state write.
use Rattle.std.proofs.Common.{◌≡◌, inl, inr, Bool, true, false, ◌||◌, cond, List, [], ◌∷◌, ◌++◌, map, refl, sym, ap, ◌∙◌, subst, append-nil, Option, Some, None}
use Rattle.std.specs.Prelude.{◌↔◌, IsTrue, slice_get, option_map, if◌then◌else◌}
use Rattle.std.specs.Bool.{OnTrue, OnFalse}
use Rattle.std.proofs.lemmas.Option.{none-some}
use Rattle.std.proofs.lemmas.List.{map-append}
use Rattle.std.proofs.lemmas.List.Folds.{list_any-append}
use Rattle.resil_rule.specs.declared.event.Reply.TheVariants.{Core}
use Rattle.resil_rule.proofs.IdLaws.{in_flight-running}
use Rattle.resil_rule.proofs.UnpickedLaws.{waiting-same}
use Rattle.resil_pool.specs.Words.{PlanView, RunView, Sizes, is_close, is_closed, is_same_id, is_among, waiting, IsAllowed, MachineView, jobs_in_flight, newly_accepted, with_event, with_submission, with_run, with_finish, Accepted, Id, Reply, Event, Submit, Take, Finish, IdleEnd, LoggedEvent, Note, Written}
use Rattle.resil_lock.specs.declared.log.Note.TheVariants as note
use Rattle.resil_pool.specs.Lock.{log_event, finish_of, plans_in, plan_entry, run_of, plain, entries_of, IsStep, IsMoved, WritesAtMost}
use Rattle.resil_pool.specs.Worker.{EndsIdle, HasNoTake}

-- an event was written that was allowed, and these are the accepted jobs then
appends : (plan : Option PlanView) (old new : MachineView) (event : Event) (jobs : List Accepted) → IsAllowed old.limits old.history event → map plan_entry jobs ≡ map plan_entry old.jobs ++ plans_in (log_event plan event ∷ [])
    → new ≡ record old { history = old.history ++ event ∷ []; jobs = jobs } → IsStep plan old (note.Event event) new
appends plan old new event jobs allowed plans is = (
  record {
    allowed = allowed;
    sized = ap (λ (m : MachineView). m.limits) is;
    history = ap (λ (m : MachineView). m.history) is;
    plans = ap (λ (m : MachineView). map plan_entry m.jobs) is ∙ plans;
  },
  ap (λ (m : MachineView). m.picked) is,
)

filed-accepted : (reply : Reply) (id : Id) (plan : PlanView) → map plan_entry (newly_accepted id reply plan) ≡ plans_in (log_event (Some plan) (Submit id reply) ∷ [])
filed-accepted Core id plan = refl
filed-accepted _ id plan = refl

pub submission-step : (old new : MachineView) (id : Id) (reply : Reply) (plan : PlanView) → IsAllowed old.limits old.history (Submit id reply) → new ≡ with_submission old id reply plan → IsStep (Some plan) old (note.Event (Submit id reply)) new
submission-step old new id reply plan allowed is =
    appends (Some plan) old new (Submit id reply) _ allowed (map-append plan_entry old.jobs (newly_accepted id reply plan) ∙ ap (λ (xs : List (Id × Option PlanView)). map plan_entry old.jobs ++ xs) (filed-accepted reply id plan)) is

-- an event that isn't a submission
pub event-step : (old new : MachineView) (event : Event) → plans_in (log_event None event ∷ []) ≡ [] → IsAllowed old.limits old.history event → new ≡ with_event old event → IsStep None old (note.Event event) new
event-step old new event none allowed is =
    appends None old new event old.jobs allowed (sym (append-nil (map plan_entry old.jobs)) ∙ ap (λ (xs : List (Id × Option PlanView)). map plan_entry old.jobs ++ xs) (sym none)) is

pub filed-with_run : (jobs : List Accepted) (id : Id) (run : RunView) → map plan_entry (with_run jobs id run) ≡ map plan_entry jobs
filed-with_run [] id run = refl
filed-with_run (job ∷ jobs) id run = same (is_same_id id job.id) (filed-with_run jobs id run)
  where
    same : (b : Bool) → map plan_entry (with_run jobs id run) ≡ map plan_entry jobs → map plan_entry (cond b ((record job { run = Some run }) ∷ jobs) (job ∷ with_run jobs id run)) ≡ plan_entry job ∷ map plan_entry jobs
    same true rest = refl
    same false rest = ap (λ (xs : List (Id × Option PlanView)). plan_entry job ∷ xs) rest

-- an id that is among the jobs that are out runs
pub out_runs : (m : MachineView) (id : Id) → is_among id (jobs_in_flight m) ≡ true → IsAllowed m.limits m.history (Finish id)
out_runs m id h = in_flight-running m.history m.picked id h

-- what became of the machine, by what was noted
pub moved-none : (old new : MachineView) (last : Option Written) → last ≡ None → new ≡ old → IsMoved old (entries_of new.jobs last) new
moved-none old new last none same = subst (λ (l : Option Written). IsMoved old (entries_of new.jobs l) new) (sym none) same

pub moved-one : (old new : MachineView) (last : Option Written) (written : Note) → last ≡ Some (plain written) → IsStep None old written new → IsMoved old (entries_of new.jobs last) new
moved-one old new last written is step = subst (λ (l : Option Written). IsMoved old (entries_of new.jobs l) new) (sym is) step

-- a finish
pub finish-step : (old new : MachineView) (id : Id) (run : RunView) → is_among id (jobs_in_flight old) ≡ true → new ≡ with_finish old id run → IsStep None old (note.Event (Finish id)) new
finish-step old new id run out is = appends None old new (Finish id) (with_run old.jobs id run) (out_runs old id out) (filed-with_run old.jobs id run ∙ sym (append-nil (map plan_entry old.jobs))) is

abbrev finish_with : Id → Option RunView → List LoggedEvent
finish_with id kept = record { note = note.Event (Finish id); payload = record { plan = None; ended = option_map (λ run. record { id = id; run = run }) kept } } ∷ []

pub finish-told : (jobs : List Accepted) (id : Id) (run : RunView) (last : Option Written) → last ≡ Some (plain (note.Event (Finish id))) → run_of jobs id ≡ Some run → entries_of jobs last ≡ finish_of id run ∷ []
finish-told jobs id run last is kept = ap (entries_of jobs) is ∙ ap (finish_with id) kept

-- an event that is neither a submission nor a finish was written, and noted, or neither
pub record Noted (event : Event) (old new : MachineView) (last : Option Written) : Type 0 where
  pub wrote : IsMoved old (entries_of new.jobs last) new
  pub most : WritesAtMost event (entries_of new.jobs last)

pub as_noted : (event : Event) (written : Bool) (old new : MachineView) (last : Option Written) → plans_in (log_event None event ∷ []) ≡ [] → ((jobs : List Accepted) → entries_of jobs (Some (plain (note.Event event))) ≡ log_event None event ∷ []) → (IsTrue written → IsAllowed old.limits old.history event)
    → OnTrue written (new ≡ with_event old event) → OnFalse written (new ≡ old) → last ≡ (if written then Some (plain (note.Event event)) else None) → Noted event old new last
as_noted event true old new last none one allowed is _ noted = record { wrote = moved-one old new last (note.Event event) noted (event-step old new event none (allowed refl) is); most = inr (ap (entries_of new.jobs) noted ∙ one new.jobs) }
as_noted event false old new last none one allowed _ same noted = record { wrote = moved-none old new last noted same; most = inl (ap (entries_of new.jobs) noted) }

-- after an idle end nothing waits
no_take_after_idle_end : (limits : Sizes) (h : List Event) → IsAllowed limits h IdleEnd → (id : Id) → ¬ IsAllowed limits (h ++ IdleEnd ∷ []) (Take id)
no_take_after_idle_end limits h allowed id take =
    let none : waiting (h ++ IdleEnd ∷ []) ≡ [] = waiting-same h IdleEnd refl refl ∙ allowed.0 in none-some id (sym (ap (λ (ids : List Id). slice_get ids 0) none) ∙ take.0)

-- what an idle end leaves, whether it was one or not
pub idle_end_after : (ended : Bool) (old new : MachineView) (last : Option Written) → Noted IdleEnd old new last → (IsTrue ended ↔ IsAllowed old.limits old.history IdleEnd) → OnTrue ended (new ≡ with_event old IdleEnd) → OnFalse ended (new ≡ old) → HasNoTake old
    → EndsIdle old new (entries_of new.jobs last)
idle_end_after true old new last noted iff is _ none = record {
  ends = λ _. is;
  wrote = noted.wrote;
  rests = noted.most;
  no_take = subst HasNoTake (sym is) (no_take_after_idle_end old.limits old.history (iff.0 refl));
  closed = λ shut. ap (λ (m : MachineView). is_closed m.history) is ∙ (list_any-append is_close old.history (IdleEnd ∷ []) ∙ ap (λ (b : Bool). b || false) shut);
}
idle_end_after false old new last noted iff _ is none = record {
  ends = λ allowed. let no : false ≡ true = iff.1 allowed in absurd (cc);
  wrote = noted.wrote;
  rests = noted.most;
  no_take = subst HasNoTake (sym is) none;
  closed = λ shut. ap (λ (m : MachineView). is_closed m.history) is ∙ shut;
}
