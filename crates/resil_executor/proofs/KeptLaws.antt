-- What a turn does besides the rule agrees with the log.
use Rattle.std.proofs.Common.{◌≡◌, ◌+◌, ◌==◌, inl, inr, ℕ, suc, true, cond, List, [], ◌∷◌, ◌++◌, ◌∙◌, Option, Some, None, length, slice_get, sym, refl, ap, subst, arith, append-nil, length-append}
use Rattle.resil_executor.specs.Words.{accepted, accepted_id, finished, finished_id, submissions, is_submit_of, RuleView, owed, is_acceptance, with_submission, with_pick, with_take, with_finish, IsPicked, Id, Reply, Event, Picked, Slot}
use Rattle.resil_rule.specs.declared.event.Reply.TheVariants as reply
use Rattle.resil_rule.specs.declared.event.Event.TheVariants as event
use Rattle.resil_rule.specs.declared.rule.Origin.TheVariants as origin
use Rattle.resil_rule.proofs.EventLaws.{submissions-more}
use Rattle.resil_rule.proofs.OwedLaws.{dropped, pick-owes, take-owes}
use Rattle.resil_rule.proofs.SlotLaws.{put-length, clear-length}
use Rattle.resil_lock.specs.declared.log.Note.TheVariants as note
use Rattle.resil_executor.specs.Log.{Entry, Note, entries_of, events_in}
use Rattle.resil_executor.proofs.LogLaws.{length-more, events-more}
use Rattle.resil_executor.specs.Kept.{refused, refused_id, events_of, IsOwn, unfinished, KeepsUp, Keeps}

-- an own submission was accepted or refused, and no other event is an own submission
answered-once : (e : Event) → IsOwn (Some (note.Event e)) → cond (is_submit_of 1 e) 1 0 ≡ length (accepted (e ∷ [])) + length (refused (e ∷ []))
answered-once (event.Submit id reply.Core) own = ap {B = ℕ} (λ (c : ℕ). cond (c == 1) 1 0) own
answered-once (event.Submit id reply.Queued) own = ap {B = ℕ} (λ (c : ℕ). cond (c == 1) 1 0) own
answered-once (event.Submit id reply.Extra) own = ap {B = ℕ} (λ (c : ℕ). cond (c == 1) 1 0) own
answered-once (event.Submit id reply.Full) own = ap {B = ℕ} (λ (c : ℕ). cond (c == 1) 1 0) own
answered-once (event.Submit id reply.Closed) own = ap {B = ℕ} (λ (c : ℕ). cond (c == 1) 1 0) own
answered-once e own = refl

answered-more : (h : List Event) (last : Option Note) → IsOwn last → length (submissions (h ++ events_of last) 1) ≡ length (submissions h 1) + (length (accepted (events_of last)) + length (refused (events_of last)))
answered-more h None own = ap (λ (l : List Event). length (submissions l 1)) (append-nil h) ∙ omega arith
answered-more h (Some (note.Started id)) own = ap (λ (l : List Event). length (submissions l 1)) (append-nil h) ∙ omega arith
answered-more h (Some (note.Event e)) own = let more = submissions-more h e 1 in let once = answered-once e own in omega (arith, more, once)

module _ {W H : Type 0} (IsRecordOf : List Event → H → Type 0) (HasRoom : ℕ → H → Type 0) where
  pub keeps-up : (log : List (Entry W)) (v after : RuleView W) (last : Option Note) (count count' : ℕ) (r r' : H) → Keeps IsRecordOf HasRoom v count r after last count' r'
      → KeepsUp IsRecordOf HasRoom log v count r → KeepsUp IsRecordOf HasRoom (log ++ entries_of after last) after count' r'
  keeps-up log v after last count count' r r' k s =
      let more = events-more log after last in
      let h = events_in log in
      let acs = length-more accepted_id h (events_of last) in
      let fins = length-more finished_id h (events_of last) in
      let refs = length-more refused_id h (events_of last) in
      let subs = answered-more h last k.own in
      let new = k.counted in
      let old = s.counted in
      let jobs = k.jobs in
      let were = s.jobs in
      let answered = s.answered in record {
        recorded = subst (λ (l : List Event). IsRecordOf l r') (sym more) (k.recorded h s.recorded);
        room = k.room;
        counted = (let now : count' ≡ length (accepted (h ++ events_of last)) = omega (arith, acs, new, old) in now ∙ ap (λ (l : List Event). length (accepted l)) (sym more));
        jobs = (let now : unfinished after + length (finished (h ++ events_of last)) ≡ count' = omega (arith, fins, new, jobs, were) in ap (λ (l : List Event). unfinished after + length (finished l)) more ∙ now);
        answered = (
            let now : length (submissions (h ++ events_of last) 1) ≡ length (accepted (h ++ events_of last)) + length (refused (h ++ events_of last)) = omega (arith, subs, acs, refs, answered) in
            subst (λ (l : List Event). length (submissions l 1) ≡ length (accepted l) + length (refused l)) (sym more) now
            );
      }

  -- after a turn that changed and noted nothing
  pub keeps-quiet : (log : List (Entry W)) (v after : RuleView W) (last : Option Note) (count count' : ℕ) (r r' : H) → last ≡ None → (count' ≡ count) × (r' ≡ r) × (after ≡ v)
      → KeepsUp IsRecordOf HasRoom log v count r → KeepsUp IsRecordOf HasRoom (log ++ entries_of after last) after count' r'
  keeps-quiet log v after last count count' r r' none same s = rw (none, append-nil, same.2, same.0, same.1) s

  module _ (v after : RuleView W) (count count' : ℕ) (last : Option Note) (r r' : H) where
    -- a turn that noted this event
    pub keeps-event : (e : Event) → last ≡ Some (note.Event e) → count' ≡ count + length (accepted (e ∷ [])) → ((h : List Event) → IsRecordOf h r → IsRecordOf (h ++ e ∷ []) r') → HasRoom (owed after) r'
        → unfinished after + length (finished (e ∷ [])) ≡ unfinished v + length (accepted (e ∷ [])) → IsOwn (Some (note.Event e)) → Keeps IsRecordOf HasRoom v count r after last count' r'
    keeps-event e is counts recorded room jobs own = rw is (record { recorded = recorded; room = room; counted = counts; jobs = jobs; own = own })

-- what each step does to the numbers of the rule
module _ {W : Type 0} (v after : RuleView W) where
  pub submit-jobs : (id : Id) (work : W) (r : Reply) → is_acceptance r ≡ true → after ≡ with_submission v id work r → unfinished after + length (finished (event.Submit id r ∷ [])) ≡ unfinished v + length (accepted (event.Submit id r ∷ []))
  submit-jobs id work reply.Core is same = let l = length-append v.unpicked ((id, work) ∷ []) in rw same (omega (arith, l))
  submit-jobs id work reply.Queued is same = let l = length-append v.waiting ((id, work) ∷ []) in rw same (omega (arith, l))
  submit-jobs id work reply.Extra is same = let l = length-append v.unpicked ((id, work) ∷ []) in rw same (omega (arith, l))
  submit-jobs id work reply.Full is same = absurd (cc is)
  submit-jobs id work reply.Closed is same = absurd (cc is)

  pub accepts-one : (count count' : ℕ) (id : Id) (r : Reply) → is_acceptance r ≡ true → count' ≡ count + 1 → count' ≡ count + length (accepted (event.Submit id r ∷ []))
  accepts-one count count' id reply.Core is e = e
  accepts-one count count' id reply.Queued is e = e
  accepts-one count count' id reply.Extra is e = e
  accepts-one count count' id reply.Full is e = absurd (cc is)
  accepts-one count count' id reply.Closed is e = absurd (cc is)

  pick-jobs : (slot : Slot) (work : W) → slice_get v.out slot.place ≡ Some None → slice_get v.unpicked 0 ≡ Some (slot.id, work) → after ≡ with_pick v slot → unfinished after ≡ unfinished v
  pick-jobs slot work free front same =
      let e : unfinished after ≡ unfinished (with_pick v slot) = ap unfinished same in
      let more = put-length slot.id v.out slot.place free in
      let fewer = dropped v.unpicked (slot.id, work) front in
      omega (arith, e, more, fewer)

  take-jobs : (slot : Slot) (work : W) → slice_get v.out slot.place ≡ Some None → slice_get v.waiting 0 ≡ Some (slot.id, work) → after ≡ with_take v slot → unfinished after ≡ unfinished v
  take-jobs slot work free front same =
      let e : unfinished after ≡ unfinished (with_take v slot) = ap unfinished same in
      let more = put-length slot.id v.out slot.place free in
      let fewer = dropped v.waiting (slot.id, work) front in
      omega (arith, e, more, fewer)

  pub finish-jobs : (slot : Slot) → slice_get v.out slot.place ≡ Some (Some slot.id) → after ≡ with_finish v slot → unfinished after + 1 ≡ unfinished v
  finish-jobs slot there same =
      let e : unfinished after ≡ unfinished (with_finish v slot) = ap unfinished same in
      let fewer = clear-length slot.id v.out slot.place there in
      omega (arith, e, fewer)

  module _ {H : Type 0} (IsRecordOf : List Event → H → Type 0) (HasRoom : ℕ → H → Type 0) where
    pub pick-room : (p : Picked W) (r : H) → IsPicked v p after → HasRoom (owed v) r → (p.origin ≡ origin.OwnStart → HasRoom (owed after) r) × (p.origin ≡ origin.Queue → HasRoom (suc (owed after)) r)
    pick-room p r (free, inl was) room = (λ own. subst (λ (n : ℕ). HasRoom n r) (sym (pick-owes v after p.slot p.work free was.1 was.2)) room, λ queue. absurd (cc (sym queue ∙ was.0)))
    pick-room p r (free, inr was) room = (λ own. absurd (cc (sym own ∙ was.0)), λ queue. subst (λ (n : ℕ). HasRoom n r) (sym (take-owes v after p.slot p.work free was.2 was.3)) room)

    pub pick-keeps : (p : Picked W) (last : Option Note) (count count' : ℕ) (r r' : H) → IsPicked v p after → (p.origin ≡ origin.OwnStart → last ≡ Some (note.Started p.slot.id)) → (p.origin ≡ origin.Queue → last ≡ Some (note.Event (event.Take p.slot.id)))
        → count' ≡ count → ((h : List Event) → IsRecordOf h r → IsRecordOf (h ++ events_of last) r') → HasRoom (owed after) r' → Keeps IsRecordOf HasRoom v count r after last count' r'
    pick-keeps p last count count' r r' (free, inl was) own queue counts recorded room =
        let is = own was.0 in
        let jobs = pick-jobs p.slot p.work free was.1 was.2 in
        let kept = rw is at recorded in
        rw is (record { recorded = kept; room = room; counted = omega (arith, counts); jobs = omega (arith, jobs); own = tt })
    pick-keeps p last count count' r r' (free, inr was) own queue counts recorded room =
        let is = queue was.0 in
        keeps-event IsRecordOf HasRoom v after count count' last r r' (event.Take p.slot.id) is (omega (arith, counts)) (λ h k. subst (λ (l : Option Note). IsRecordOf (h ++ events_of l) r') is (recorded h k)) room
        (let jobs = take-jobs p.slot p.work free was.2 was.3 in omega (arith, jobs)) tt
