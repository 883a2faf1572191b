-- Each step of the rule keeps what it stands for, for any log.
use Rattle.std.proofs.Common.{◌≡◌, ◌⊎◌, inl, inr, ℕ, zero, suc, ◌+◌, true, List, [], ◌∷◌, ◌++◌, ◌∙◌, Option, Some, length, slice_get, slice_set, sym, refl, ap, subst, arith, append-nil}
use Rattle.std.specs.Prelude.{Contains}
use Rattle.std.proofs.lemmas.List.Elements.{Contains-push, Contains-push_cases}
use Rattle.resil_executor.specs.Words.{Sizes, IsAllowed, times, ids_out, RuleView, is_acceptance, with_submission, with_pick, with_take, with_finish, IsStateOf, Follows, IsPicked, Id, Reply, Event, Picked, Slot}
use Rattle.resil_rule.specs.declared.event.Reply.TheVariants as reply
use Rattle.resil_rule.specs.declared.event.Event.TheVariants as event
use Rattle.resil_rule.specs.declared.rule.Origin.TheVariants as origin
use Rattle.resil_rule.proofs.TimesLaws.{times-last}
use Rattle.resil_rule.proofs.SlotLaws.{put-times, clear-times}
use Rattle.resil_lock.specs.declared.log.Note.TheVariants as note
use Rattle.resil_lock.proofs.LogLaws.{times-more}
use Rattle.resil_executor.specs.Kept.{events_of}
use Rattle.resil_executor.specs.Log.{Entry, Note, picked_id, ended_id, job_of, work_of, entry_of, events_in, accepted_in, picked_in, ended_in, AreAcceptedIn}
use Rattle.resil_executor.specs.Turn.{Steps, Writes, Accepts, Picks}
use Rattle.resil_executor.proofs.LogLaws.{more-some, events-more, still-there, contains-later, contains-first, last-more}

made-length : (xs : List ℕ) (i n : ℕ) → length (slice_set xs i n) ≡ length xs
made-length [] i n = refl
made-length (x ∷ xs) zero n = refl
made-length (x ∷ xs) (suc i) n = ap suc (made-length xs i n)

module _ {W : Type 0} where
  -- the jobs that the rule had, or the new one
  abbrev IsGrown : Option (Id × W) → List (Id × W) → List (Id × W) → Type 0
  IsGrown new before after = (job : Id × W) → Contains after job → Contains before job ⊎ (new ≡ Some job)

  one-job-more : (new : Option (Id × W)) (jobs : List (Id × W)) (one : Id × W) → new ≡ Some one → IsGrown new jobs (jobs ++ one ∷ [])
  one-job-more new jobs one is job there = elim (Contains-push_cases jobs one job there) [ inl old ↦ inl old | inr same ↦ inr (is ∙ ap Some same) ]

  known-more : (log : List (Entry W)) (entry : Entry W) (before after : List (Id × W)) → IsGrown (job_of entry.note entry.payload) before after → AreAcceptedIn log before → AreAcceptedIn (log ++ entry ∷ []) after
  known-more log entry before after grown known job there = split (grown job there)
    where
      split : Contains before job ⊎ (job_of entry.note entry.payload ≡ Some job) → Contains (accepted_in (log ++ entry ∷ [])) job
      split (inl old) = still-there (λ (e : Entry W). job_of e.note e.payload) log (entry ∷ []) job (known job old)
      split (inr new) = subst (λ (l : List (Id × W)). Contains l job) (sym (more-some (λ (e : Entry W). job_of e.note e.payload) log entry job new)) (Contains-push (accepted_in log) job)

  -- A turn that wrote this note: the rule is left in the state that the history gives then. What was picked and ended changes what is out, and what was
  -- accepted changes which jobs the rule has.
  steps-by : (v after : RuleView W) (noted : Note) → ((h : List Event) → IsStateOf h v → IsStateOf (h ++ events_of (Some noted)) after) → after.limits ≡ v.limits → length after.made ≡ length v.made
      → ((id : Id) → times id (ids_out after.out) + times id (ended_in (entry_of after noted ∷ [])) ≡ times id (ids_out v.out) + times id (picked_in (entry_of after noted ∷ [])))
      → IsGrown (job_of noted (work_of after noted)) v.unpicked after.unpicked → IsGrown (job_of noted (work_of after noted)) v.waiting after.waiting → Steps v (Some noted) after
  steps-by v after noted state same made moves own queue limits log s = record {
    state = subst (λ (h : List Event). IsStateOf h after) (sym (events-more log after (Some noted))) (state (events_in log) s.state);
    limits_are = same ∙ s.limits_are;
    counts = (let old = s.counts in omega (arith, old, made));
    outs = λ id.
        let old = s.outs id in
        let moved = moves id in
        let picked = times-more (λ (e : Entry W). picked_id e.note) id log (entry_of after noted ∷ []) in
        let ended = times-more (λ (e : Entry W). ended_id e.note) id log (entry_of after noted ∷ []) in
        omega (arith, old, moved, picked, ended);
    starts = known-more log (entry_of after noted) v.unpicked after.unpicked own s.starts;
    queue = known-more log (entry_of after noted) v.waiting after.waiting queue s.queue;
  }

  -- A turn that wrote an event, from a step whose result is known: the rule is left as the step left it, and the event is noted.
  pub writes-by : (v known step after : RuleView W) (last : Option Note) (e : Event) → known.limits ≡ v.limits → length known.made ≡ length v.made
      → ((id : Id) → times id (ids_out known.out) + times id (ended_in (entry_of known (note.Event e) ∷ [])) ≡ times id (ids_out v.out) + times id (picked_in (entry_of known (note.Event e) ∷ [])))
      → IsGrown (job_of (note.Event e) (work_of known (note.Event e))) v.unpicked known.unpicked → IsGrown (job_of (note.Event e) (work_of known (note.Event e))) v.waiting known.waiting
      → step ≡ known → Follows v e step → after ≡ step → last ≡ Some (note.Event e) → Writes v e after last
  writes-by v known step after last e same made moves own queue is follows kept noted =
      let followed = rw is at follows in
      rw (noted, kept, is) (record {
        steps = steps-by v known (note.Event e) (λ h s. (followed h s).1) same made moves own queue;
        allowed = λ limits log s. subst (λ (x : Sizes). IsAllowed x (events_in log) e) s.limits_are (followed (events_in log) s.state).0;
        wrote = refl;
      })

  -- the work of an accepted submission is the work of the job that was added last
  work-put : (v : RuleView W) (id : Id) (r : Reply) (work : W) → is_acceptance r ≡ true → work_of (with_submission v id work r) (note.Event (event.Submit id r)) ≡ Some work
  work-put v id reply.Core work is = last-more v.unpicked id work
  work-put v id reply.Queued work is = last-more v.waiting id work
  work-put v id reply.Extra work is = last-more v.unpicked id work
  work-put v id reply.Full work is = absurd (cc is)
  work-put v id reply.Closed work is = absurd (cc is)

  job-put : (v : RuleView W) (id : Id) (r : Reply) (work : W) → is_acceptance r ≡ true → job_of (note.Event (event.Submit id r)) (work_of (with_submission v id work r) (note.Event (event.Submit id r))) ≡ Some (id, work)
  job-put v id r work is = ap (λ (o : Option W). job_of (note.Event (event.Submit id r)) o) (work-put v id r work is)

  module _ (v step after : RuleView W) (last : Option Note) where
    pub submit-writes : (id : Id) (r : Reply) (work : W) → step ≡ with_submission v id work r → Follows v (event.Submit id r) step → after ≡ step → last ≡ Some (note.Event (event.Submit id r)) → Writes v (event.Submit id r) after last
    submit-writes id reply.Core work =
        writes-by v (with_submission v id work reply.Core) step after last (event.Submit id reply.Core) refl (made-length v.made id.caller id.number) (λ x. refl) (one-job-more _ v.unpicked (id, work) (job-put v id reply.Core work refl)) (λ job there. inl there)
    submit-writes id reply.Queued work =
        writes-by v (with_submission v id work reply.Queued) step after last (event.Submit id reply.Queued) refl (made-length v.made id.caller id.number) (λ x. refl) (λ job there. inl there) (one-job-more _ v.waiting (id, work) (job-put v id reply.Queued work refl))
    submit-writes id reply.Extra work =
        writes-by v (with_submission v id work reply.Extra) step after last (event.Submit id reply.Extra) refl (made-length v.made id.caller id.number) (λ x. refl) (one-job-more _ v.unpicked (id, work) (job-put v id reply.Extra work refl)) (λ job there. inl there)
    submit-writes id reply.Full work = writes-by v (with_submission v id work reply.Full) step after last (event.Submit id reply.Full) refl (made-length v.made id.caller id.number) (λ x. refl) (λ job there. inl there) (λ job there. inl there)
    submit-writes id reply.Closed work = writes-by v (with_submission v id work reply.Closed) step after last (event.Submit id reply.Closed) refl (made-length v.made id.caller id.number) (λ x. refl) (λ job there. inl there) (λ job there. inl there)

    pub accept-writes : (id : Id) (r : Reply) (work : W) → is_acceptance r ≡ true → step ≡ with_submission v id work r → Follows v (event.Submit id r) step → after ≡ step → last ≡ Some (note.Event (event.Submit id r)) → Accepts v id r work after last
    accept-writes id r work is same follows kept noted = record { writes = submit-writes id r work same follows kept noted; work_is = subst (λ (x : RuleView W). work_of x (note.Event (event.Submit id r)) ≡ Some work) (sym (kept ∙ same)) (work-put v id r work is) }

    pub finish-writes : (slot : Slot) (id : Id) → slot.id ≡ id → slice_get v.out slot.place ≡ Some (Some slot.id) → step ≡ with_finish v slot → Follows v (event.Finish slot.id) step
        → after ≡ step → last ≡ Some (note.Event (event.Finish slot.id)) → Writes v (event.Finish id) after last
    finish-writes slot id named there same follows kept noted =
        subst (λ (i : Id). Writes v (event.Finish i) after last) named
        (writes-by v (with_finish v slot) step after last (event.Finish slot.id) refl refl
        (λ x. let fewer = clear-times x slot.id v.out slot.place there in let one = times-last x slot.id [] in omega (arith, fewer, one))
        (λ job there. inl there) (λ job there. inl there) same follows kept noted)

-- a pick, by the origin of the job
pub noted-picks : {W : Type 0} (v known after : RuleView W) (p : Picked W) (last : Option Note) (slot : Slot) (work : W) → (p.origin ≡ origin.OwnStart → last ≡ Some (note.Started p.slot.id)) → (p.origin ≡ origin.Queue → last ≡ Some (note.Event (event.Take p.slot.id)))
    → IsPicked v p known → after ≡ known → slot ≡ p.slot → work ≡ p.work → Picks v slot.id work after last
noted-picks v known after p last slot work own queue (free, inl was) same same_slot same_work =
    let stays = rw was.2 at was.3 in
    rw (own was.0, same, was.2, same_slot, same_work) (record {
      steps = steps-by v (with_pick v p.slot) (note.Started p.slot.id) (λ h s. subst (λ (l : List Event). IsStateOf l (with_pick v p.slot)) (sym (append-nil h)) (stays h s)) refl refl
          (λ x. let more = put-times x p.slot.id v.out p.slot.place free in let one = times-last x p.slot.id [] in omega (arith, more, one)) (λ job there. inl (contains-later v.unpicked job there)) (λ job there. inl there);
      noted = note.Started p.slot.id;
      wrote = refl;
      picked = refl;
      ended = refl;
      known = λ limits log s. s.starts (p.slot.id, p.work) (contains-first v.unpicked (p.slot.id, p.work) was.1);
    })
noted-picks v known after p last slot work own queue (free, inr was) same same_slot same_work =
    let follows = rw was.3 at was.4 in
    rw (queue was.0, same, was.3, same_slot, same_work) (record {
      steps = steps-by v (with_take v p.slot) (note.Event (event.Take p.slot.id)) (λ h s. (follows h s).1) refl refl
          (λ x. let more = put-times x p.slot.id v.out p.slot.place free in let one = times-last x p.slot.id [] in omega (arith, more, one)) (λ job there. inl there) (λ job there. inl (contains-later v.waiting job there));
      noted = note.Event (event.Take p.slot.id);
      wrote = refl;
      picked = refl;
      ended = refl;
      known = λ limits log s. s.queue (p.slot.id, p.work) (contains-first v.waiting (p.slot.id, p.work) was.2);
    })
