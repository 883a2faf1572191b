-- What a seat sees after its turn, and what it may have written.
use Rattle.std.proofs.Common.{◌≡◌, ◌<◌, ◌≤◌, ◌+◌, inl, inr, ℕ, Bool, true, false, cond, List, [], ◌++◌, ◌∙◌, Option, Some, None, length, sym, refl, ap, subst, arith, append-nil}
use Rattle.std.proofs.lemmas.List.{nil_from_length}
use Rattle.std.specs.Prelude.{IfErr, IfOk, OnOk, OnErr, Result, Ok, Err, Contains}
use Rattle.std.specs.Bool.{OnTrue, OnFalse}
use Rattle.resil_executor.specs.Words.{IsPrefix, Sizes, IsLegal, times, is_among, is_same_id, running, submissions, is_closed, ids_out, RuleView, ids_of, busy, made_by, Id, Event, Reply, Rank, View, Look, Found, Nothing, Over, OnFound, OnNothing, OnOver, IsCovered, left_view, holder_view, Opening, State, PickedJob, Numbers}
use Rattle.resil_rule.specs.declared.event.Event.TheVariants as event
use Rattle.resil_rule.specs.declared.event.Reply.TheVariants as reply
use Rattle.resil_rule.proofs.IdLaws.{same_id-self, same_id-equal}
use Rattle.resil_rule.proofs.TimesLaws.{among-some, times-last}
use Rattle.resil_rule.proofs.RuleLaws.{length-ids}
use Rattle.resil_lock.specs.declared.protocol.Rank.TheVariants as rank
use Rattle.resil_lock.proofs.LogLaws.{covered-ends, covered-picks}
use Rattle.resil_lock.specs.declared.log.Note.TheVariants as note
use Rattle.resil_executor.specs.declared.state.Refused.{Refused}
use Rattle.resil_executor.specs.declared.state.Refused.TheVariants as refused
use Rattle.resil_executor.specs.Kept.{KeepsUp, Keeps, unfinished}
use Rattle.resil_executor.specs.Log.{Entry, Note, StandsFor, MayHaveWritten, picked_id, ended_id, job_of, beyond_submission, entry_of, entries_of, events_in, accepted_in, picked_in, ended_in, beyond_submissions_in, IsOver}
use Rattle.resil_executor.specs.Turn.{Steps, IsPlain, IsVisit, Writes, WritesNone, Accepts, Refuses, Picks, IsOverNow, SeesLast, SeesMore, SeesAccepted, SeesRefusal, IsDue, HasPicked, HasRested, SeesOver, AreNumbersAfter}
use Rattle.resil_executor.proofs.KeptLaws.{keeps-up}
use Rattle.resil_executor.proofs.LogLaws.{more-some, more-none, more-empty, still-there, prefix-more}
use Rattle.resil_executor.proofs.OneLogLaws.{picked-once}
use Rattle.resil_executor.proofs.HistoryLaws.{full-is-real, closed-is-real, nothing_left_is_over}

-- A turn of a seat: the rule that it found under the lock stands for the log that it saw there, which begins with what it had seen. What the turn noted is what
-- it wrote.
pub record HasTurned {W K : Type 0} (limits : Sizes) (old locked new : View K (Entry W)) (v after : RuleView W) (last : Option Note) : Type 0 where
  pub found : StandsFor limits locked.seen v
  pub begins : IsPrefix old.seen locked.seen
  pub own : locked.own ≡ old.own
  pub saw : new.seen ≡ locked.seen ++ entries_of after last
  pub wrote : new.own ≡ locked.own ++ entries_of after last
  pub turned : new.turns ≡ old.turns + 1
  pub made : new.made ≡ old.made

-- what a state under the lock keeps true
abbrev IsHome : {W H : Type 0} → (List Event → H → Type 0) → (ℕ → H → Type 0) → (H → Option ℕ) → Opening H → List (Entry W) → State W H → Type 0
IsHome IsRecordOf HasRoom capacity opening log s = StandsFor opening.limits log s.rule × KeepsUp IsRecordOf HasRoom log s.rule s.accepted s.kept × (capacity s.kept ≡ capacity opening.blank.value)

-- a state that was lent out of its block
module _ {W H : Type 0} {IsRecordOf : List Event → H → Type 0} {HasRoom : ℕ → H → Type 0} (capacity : H → Option ℕ) {opening : Opening H} {log : List (Entry W)} {lent s : State W H} (same : lent ≡ s) where
  pub out_of_block : IsHome IsRecordOf HasRoom capacity opening log s → IsHome IsRecordOf HasRoom capacity opening log lent
  out_of_block home = subst (λ (x : State W H). IsHome IsRecordOf HasRoom capacity opening log x) (sym same) home

  pub back_home : (next : State W H) → IsHome IsRecordOf HasRoom capacity opening log s → Steps lent.rule next.last next.rule → Keeps IsRecordOf HasRoom lent.rule lent.accepted lent.kept next.rule next.last next.accepted next.kept → capacity next.kept ≡ capacity lent.kept
      → IsHome IsRecordOf HasRoom capacity opening (log ++ entries_of next.rule next.last) next
  back_home next home steps keeps holds =
      let was = out_of_block home in
      (steps opening.limits log was.0, keeps-up IsRecordOf HasRoom log lent.rule next.rule next.last lent.accepted next.accepted lent.kept next.kept keeps was.1, holds ∙ was.2)

-- what the proof of a turn starts from
module _ {W H : Type 0} {key : Opening H} {lent s : State W H} where
  pub turned : (old locked new : View (Opening H) (Entry W)) (next : State W H) → lent ≡ s → StandsFor locked.key.limits locked.seen s.rule → locked.key ≡ old.key → old.key ≡ key → IsPrefix old.seen locked.seen → locked.own ≡ old.own → new ≡ left_view locked (entries_of next.rule next.last) → locked ≡ holder_view old locked.seen
      → HasTurned key.limits old locked new lent.rule next.rule next.last
  turned old locked new next same stands keyed mine begins own seen took = record {
    found = subst (λ (o : Opening H). StandsFor o.limits locked.seen lent.rule) (keyed ∙ mine) (subst (λ (x : State W H). StandsFor locked.key.limits locked.seen x.rule) (sym same) stands);
    begins = begins;
    own = own;
    saw = ap (λ (v : View (Opening H) (Entry W)). v.seen) seen;
    wrote = ap (λ (v : View (Opening H) (Entry W)). v.own) seen;
    turned = ap (λ (v : View (Opening H) (Entry W)). v.turns) seen ∙ ap (λ (v : View (Opening H) (Entry W)). v.turns + 1) took;
    made = ap (λ (v : View (Opening H) (Entry W)). v.made) seen ∙ ap (λ (v : View (Opening H) (Entry W)). v.made) took;
  }

-- a turn of a seat: its view before, with the lock, and after; the rule that it found, and what it left and noted
module _ {W K : Type 0} {limits : Sizes} {old locked new : View K (Entry W)} {v after : RuleView W} {last : Option Note} (t : HasTurned limits old locked new v after last) where
  stands : Steps v last after → StandsFor limits (locked.seen ++ entries_of after last) after
  stands steps = steps limits locked.seen t.found

  legal-new : Steps v last after → IsLegal limits (events_in new.seen)
  legal-new steps =
      let now = stands steps in
      subst (λ (xs : List (Entry W)). IsLegal limits (events_in xs)) (sym t.saw) (subst (λ (x : Sizes). IsLegal x (events_in (locked.seen ++ entries_of after last))) now.limits_are now.state.legal)

  begins-new : IsPrefix old.seen new.seen
  begins-new = prefix-more old.seen locked.seen (entries_of after last) new.seen t.begins t.saw

  wrote-new : new.own ≡ old.own ++ entries_of after last
  wrote-new = t.wrote ∙ ap (λ (l : List (Entry W)). l ++ entries_of after last) t.own

  -- a turn that wrote nothing leaves the log unchanged
  seen-still : WritesNone v after last → new.seen ≡ locked.seen
  seen-still w = t.saw ∙ (ap (λ (l : Option Note). locked.seen ++ entries_of after l) w.none ∙ append-nil locked.seen)

  turned-more : old.turns < new.turns
  turned-more = let one = t.turned in omega (arith, one)

  pub more-sees : WritesNone v after last → SeesMore limits old new
  more-sees w = record {
    begins = begins-new;
    wrote = wrote-new ∙ (ap (λ (l : Option Note). old.own ++ entries_of after l) w.none ∙ append-nil old.own);
    legal = legal-new w.steps;
    turned = turned-more;
  }

  pub last-sees : (event : Event) → Writes v event after last → SeesLast limits old event new
  last-sees event w = record {
    log = locked.seen;
    work = (entry_of after (note.Event event)).payload;
    begins = t.begins;
    ends = t.saw ∙ ap (λ (l : Option Note). locked.seen ++ entries_of after l) w.wrote;
    wrote = wrote-new ∙ ap (λ (l : Option Note). old.own ++ entries_of after l) w.wrote;
    allowed = w.allowed limits locked.seen t.found;
    legal = legal-new w.steps;
    turned = turned-more;
  }

  pub accepted-sees : (id : Id) (r : Reply) (work : W) → Accepts v id r work after last → SeesAccepted limits old id r work new
  unfolding last-sees
  accepted-sees id r work a = record { sees = last-sees (event.Submit id r) a.writes; work_is = a.work_is }

  pub refusal-sees : (e : Refused) → Refuses v e after last → SeesRefusal limits old e new
  unfolding last-sees
  refusal-sees refused.Full w = let sees = last-sees (event.Submit w.0 reply.Full) w.1 in (w.0, sees, full-is-real limits (events_in locked.seen) (w.1.allowed limits locked.seen t.found).1)
  refusal-sees refused.Closed w = let sees = last-sees (event.Submit w.0 reply.Closed) w.1 in (w.0, sees, closed-is-real limits (events_in locked.seen) (w.1.allowed limits locked.seen t.found).1)
  refusal-sees refused.Spent w = (more-sees w.0, subst (λ (xs : List (Entry W)). length (submissions (events_in xs) 1) ≡ 18446744073709551615) (sym (seen-still w.0)) (sym (t.found.state.made_are 1) ∙ w.1))
  refusal-sees refused.Memory w = let sees = more-sees w in (sees.begins, sees.wrote)

  -- how many submissions there are until now
  pub made-new : Steps v last after → made_by after 1 ≡ length (submissions (events_in new.seen) 1)
  made-new steps = let now = stands steps in now.state.made_are 1 ∙ ap (λ (xs : List (Entry W)). length (submissions (events_in xs) 1)) (sym t.saw)

  -- the pool was closed before the turn, and is closed after it
  pub closed-sees : WritesNone v after last × (v.closed ≡ true) → SeesMore limits old new × (is_closed (events_in new.seen) ≡ true)
  closed-sees w = (more-sees w.0, subst (λ (xs : List (Entry W)). is_closed (events_in xs) ≡ true) (sym (seen-still w.0)) (sym t.found.state.numbers.closed_is ∙ w.1))

  module _ {H : Type 0} (IsRecordOf : List Event → H → Type 0) (HasRoom : ℕ → H → Type 0) (count : ℕ) (r : H) (k : KeepsUp IsRecordOf HasRoom (locked.seen ++ entries_of after last) after count r) where
    pub numbers-are : WritesNone v after last → (n : Numbers) → n.workers ≡ after.workers → n.running ≡ busy after → n.waiting ≡ length after.waiting → n.room + n.waiting ≡ after.limits.queue
        → (n.core ≡ after.core) × (n.max ≡ after.max) → n.accepted ≡ count → n.refused + n.accepted ≡ made_by after 1 → n.finished + unfinished after ≡ count → n.closed ≡ after.closed → AreNumbersAfter limits (events_in new.seen) n
    numbers-are w n workers runs waits room sizes accepts refuses ends closed =
        let now = stands w.steps in
        let made = now.state.made_are 1 in
        let answered = k.answered in
        let counted = k.counted in
        let jobs = k.jobs in
        subst (λ (xs : List (Entry W)). AreNumbersAfter limits (events_in xs) n) (sym t.saw) (subst (λ (x : Sizes). AreNumbersAfter x (events_in (locked.seen ++ entries_of after last)) n) now.limits_are (record {
          workers = workers ∙ now.state.numbers.workers_are;
          running = runs ∙ now.state.numbers.running_are;
          waiting = waits ∙ (sym (length-ids after.waiting) ∙ ap length now.state.waiting_is);
          room = room;
          core = sizes.0 ∙ now.state.sizes.core_is;
          max = sizes.1 ∙ now.state.sizes.max_is;
          accepted = accepts ∙ counted;
          refused = omega (arith, accepts, refuses, made, answered, counted);
          finished = omega (arith, ends, jobs);
          closed = closed ∙ now.state.numbers.closed_is;
        }))

-- at most as many jobs were accepted as there were submissions
pub few-accepted : {W H : Type 0} (IsRecordOf : List Event → H → Type 0) (HasRoom : ℕ → H → Type 0) (limits : Sizes) (log : List (Entry W)) (v : RuleView W) (count : ℕ) (r : H) → StandsFor limits log v → KeepsUp IsRecordOf HasRoom log v count r
    → count ≤ made_by v 1
few-accepted IsRecordOf HasRoom limits log v count r s k = let made = s.state.made_are 1 in let answered = k.answered in let counted = k.counted in omega (arith, made, answered, counted)

-- what a seat may have written
module _ {W : Type 0} where
  -- after entries with no pick and no end
  fits-more : (who : Rank) (own more : List (Entry W)) → MayHaveWritten who own → picked_in more ≡ [] → ended_in more ≡ [] → (who ≡ rank.Visitor → beyond_submissions_in more ≡ []) → MayHaveWritten who (own ++ more)
  fits-more who own more fits none_picked none_ended visits =
      let p = more-empty (λ (e : Entry W). picked_id e.note) own more none_picked in
      let d = more-empty (λ (e : Entry W). ended_id e.note) own more none_ended in record {
        balanced = λ id.
            let old = fits.balanced id in
            let p' = ap (times id) p in
            let d' = ap (times id) d in
            omega (arith, old, p', d');
        workers = elim fits.workers [ inl is ↦ inl is | inr none ↦ inr (p ∙ none) ];
        visitors = λ is. more-empty (λ (e : Entry W). beyond_submission e.note) own more (visits is) ∙ fits.visitors is;
      }

  pub fits-visit : (who : Rank) (own : List (Entry W)) (after : RuleView W) (last : Option Note) → MayHaveWritten who own → IsVisit after last → MayHaveWritten who (own ++ entries_of after last)
  fits-visit who own after last fits visit = fits-more who own (entries_of after last) fits visit.0.0 visit.0.1 (λ _. visit.1)

  pub fits-plain : (who : Rank) (own : List (Entry W)) (after : RuleView W) (last : Option Note) → (who ≡ rank.Visitor → ⊥) → MayHaveWritten who own → IsPlain after last → MayHaveWritten who (own ++ entries_of after last)
  fits-plain who own after last no_visitor fits plain = fits-more who own (entries_of after last) fits plain.0 plain.1 (λ is. absurd (no_visitor is))

  -- one job picked
  picked-more : (own : List (Entry W)) (after : RuleView W) (last : Option Note) (noted : Note) (id : Id) → last ≡ Some noted → picked_id noted ≡ Some id → ended_id noted ≡ None → (x : Id)
      → (times x (picked_in (own ++ entries_of after last)) ≡ times x (picked_in own) + cond (is_same_id id x) 1 0) × (times x (ended_in (own ++ entries_of after last)) ≡ times x (ended_in own))
  picked-more own after last noted id wrote pick end x = (
    ap (λ (l : Option Note). times x (picked_in (own ++ entries_of after l))) wrote ∙ (ap (times x) (more-some (λ (e : Entry W). picked_id e.note) own (entry_of after noted) id pick) ∙ times-last x id (picked_in own)),
    ap (λ (l : Option Note). times x (ended_in (own ++ entries_of after l))) wrote ∙ ap (times x) (more-none (λ (e : Entry W). ended_id e.note) own (entry_of after noted) end),
  )

  fits-pick : (who : Rank) (own : List (Entry W)) (v after : RuleView W) (last : Option Note) (id : Id) (work : W) → who ≡ rank.Worker → MayHaveWritten who own → Picks v id work after last → MayHaveWritten who (own ++ entries_of after last)
  fits-pick who own v after last id work is fits p = record {
    balanced = λ x.
        let more = picked-more own after last p.noted id p.wrote p.picked p.ended x in
        let old = fits.balanced x in
        omega (arith, more.0, more.1, old);
    workers = inl is;
    visitors = λ other. absurd (cc (is, other));
  }

  due-pick : (who : Rank) (own : List (Entry W)) (v after : RuleView W) (last : Option Note) (id : Id) (work : W) → MayHaveWritten who own → Picks v id work after last → IsDue id (own ++ entries_of after last)
  due-pick who own v after last id work fits p =
      let more = picked-more own after last p.noted id p.wrote p.picked p.ended id in
      let old = fits.balanced id in
      let one = ap {B = ℕ} (λ (b : Bool). cond b 1 0) (same_id-self id) in
      omega (arith, more.0, more.1, old, one)

  pub finish-fits : (who : Rank) (own : List (Entry W)) (v after : RuleView W) (last : Option Note) (id : Id) → who ≡ rank.Worker → IsDue id own → Writes v (event.Finish id) after last → MayHaveWritten who own → MayHaveWritten who (own ++ entries_of after last)
  finish-fits who own v after last id is due w fits = record { balanced = λ x. balanced x (is_same_id id x) refl; workers = inl is; visitors = λ other. absurd (cc (is, other)) }
    where
      by_case : (x : Id) (b : Bool) → is_same_id id x ≡ b → times x (ended_in own) + cond b 1 0 ≤ times x (picked_in own)
      by_case x true is_same = let here : IsDue x own = subst (λ (i : Id). IsDue i own) (same_id-equal id x is_same) due in omega (arith, here)
      by_case x false _ = let old = fits.balanced x in omega (arith, old)

      balanced : (x : Id) (b : Bool) → is_same_id id x ≡ b → times x (ended_in (own ++ entries_of after last)) ≤ times x (picked_in (own ++ entries_of after last))
      balanced x b is_same =
          let same = ap (λ (l : Option Note). times x (picked_in (own ++ entries_of after l))) w.wrote ∙ ap (times x) (more-none (λ (e : Entry W). picked_id e.note) own (entry_of after (note.Event (event.Finish id))) refl) in
          let more = ap (λ (l : Option Note). times x (ended_in (own ++ entries_of after l))) w.wrote ∙ (ap (times x) (more-some (λ (e : Entry W). ended_id e.note) own (entry_of after (note.Event (event.Finish id))) id refl) ∙ times-last x id (ended_in own)) in
          let one = ap {B = ℕ} (λ (b : Bool). cond b 1 0) is_same in
          let few : times x (ended_in own) + cond b 1 0 ≤ times x (picked_in own) = by_case x b is_same in
          omega (arith, same, more, one, few)

  pub look-fits : (who : Rank) (own : List (Entry W)) (v after : RuleView W) (last : Option Note) (look : Look (PickedJob W)) → who ≡ rank.Worker → OnFound look (λ p. Picks v p.slot.id p.work after last) → OnNothing look (Steps v last after × IsPlain after last)
      → MayHaveWritten who own → MayHaveWritten who (own ++ entries_of after last)
  look-fits who own v after last (Found p) is found none fits = fits-pick who own v after last p.slot.id p.work is fits found
  look-fits who own v after last Nothing is found none fits = fits-plain who own after last (λ e. absurd (cc (is, e))) fits none.1
  look-fits who own v after last Over is found none fits = fits-plain who own after last (λ e. absurd (cc (is, e))) fits none.1

  -- a job that a seat picked and didn't end is out, whatever the other seats did
  pub due-out : (limits : Sizes) (log own : List (Entry W)) (v : RuleView W) (id : Id) → StandsFor limits log v → IsCovered MayHaveWritten log own → IsDue id own → is_among id (ids_out v.out) ≡ true
  due-out limits log own v id s covered due =
      let others = covered-ends MayHaveWritten log own covered (λ who entries fits. fits.balanced) id in
      let outs = s.outs id in
      let some : 1 ≤ times id (ids_out v.out) = omega (arith, others, outs, due) in
      among-some id (ids_out v.out) some

  -- a rule that is closed and has nothing to do
  over-is : (limits : Sizes) (log : List (Entry W)) (v : RuleView W) → StandsFor limits log v → IsOverNow v → IsOver (events_in log)
  over-is limits log v s now =
      nothing_left_is_over v.limits (events_in log) s.state.legal (sym s.state.numbers.closed_is ∙ now.0) (sym s.state.waiting_is ∙ ap ids_of now.1) (nil_from_length (running (events_in log)) (sym s.state.numbers.running_are ∙ now.2))

-- what a worker knows after its turn
module _ {W K : Type 0} {limits : Sizes} {old locked new : View K (Entry W)} {v after : RuleView W} {last : Option Note} (t : HasTurned limits old locked new v after last)
    (works : locked.rank ≡ rank.Worker) (may : MayHaveWritten locked.rank locked.own) (covered : IsCovered MayHaveWritten locked.seen locked.own) where
  pub look-found : (look : Look (PickedJob W)) → OnFound look (λ p. Picks v p.slot.id p.work after last) → OnFound look (λ p. HasPicked limits p.slot.id p.work old new)
  look-found Nothing p = p
  look-found Over p = p
  look-found (Found picked) p = record {
    begins = begins-new t;
    legal = legal-new t p.steps;
    entry = entry_of after p.noted;
    wrote = wrote-new t ∙ ap (λ (l : Option Note). old.own ++ entries_of after l) p.wrote;
    picked = p.picked;
    ended = p.ended;
    known = subst (λ (xs : List (Entry W)). Contains (accepted_in xs) (picked.slot.id, picked.work)) (sym t.saw) (still-there (λ (e : Entry W). job_of e.note e.payload) locked.seen (entries_of after last) (picked.slot.id, picked.work) (p.known limits locked.seen t.found));
    due = subst (λ (xs : List (Entry W)). IsDue picked.slot.id xs) (sym t.wrote) (due-pick locked.rank locked.own v after last picked.slot.id picked.work may p);
  }

  rest-tells : Steps v last after × IsPlain after last → HasRested limits old new
  rest-tells p = record {
    begins = begins-new t;
    legal = legal-new t p.0;
    part = entries_of after last;
    wrote = wrote-new t;
    picked = p.1.0;
    ended = p.1.1;
  }

  pub look-nothing : (look : Look (PickedJob W)) → OnNothing look (Steps v last after × IsPlain after last) → OnNothing look (HasRested limits old new)
  look-nothing (Found p) h = h
  look-nothing Nothing h = rest-tells h
  look-nothing Over h = rest-tells h

  pub look-over : (look : Look (PickedJob W)) → OnNothing look (Steps v last after × IsPlain after last) → OnOver look (IsOverNow after) → OnOver look (SeesOver limits new)
  look-over (Found picked) p now = now
  look-over Nothing p now = now
  look-over Over p now = record {
    legal = legal-new t p.0;
    over = subst (λ (xs : List (Entry W)). IsOver (events_in xs)) (sym t.saw) (over-is limits (locked.seen ++ entries_of after last) after (stands t p.0) now);
    once = λ id.
        let same = ap (times id) (ap picked_in t.wrote ∙ more-empty (λ (e : Entry W). picked_id e.note) locked.own (entries_of after last) p.1.0) in
        let few = covered-picks MayHaveWritten locked.seen locked.own covered id in
        let once = picked-once limits locked.seen v t.found id in
        omega (arith, few, once, same);
  }

-- each way that a turn may go keeps what the rule stands for
module _ {W : Type 0} (v after : RuleView W) (last : Option Note) where
  pub submit-steps : (work : W) (r : Result (Id × Reply) (Refused × W)) → IfOk r (λ x. Accepts v x.0 x.1 work after last) → IfErr r (λ e. Refuses v e.0 after last) → Steps v last after
  submit-steps work (Ok x) ok err = ok.writes.steps
  submit-steps work (Err e) ok err = by_name e.0 err
    where
      by_name : (n : Refused) → Refuses v n after last → Steps v last after
      by_name refused.Full w = w.1.steps
      by_name refused.Closed w = w.1.steps
      by_name refused.Spent w = w.0.steps
      by_name refused.Memory w = w.steps

  pub bool-steps : (P : Type 0) (event : Event) (b : Bool) → OnTrue b (Writes v event after last) → OnFalse b (WritesNone v after last × P) → Steps v last after
  bool-steps P event true wrote none = wrote.steps
  bool-steps P event false wrote none = none.0.steps

  pub result-steps : {T E : Type 0} (event : Event) (r : Result T E) → OnOk r (Writes v event after last) → OnErr r (WritesNone v after last) → Steps v last after
  result-steps event (Ok x) ok err = ok.steps
  result-steps event (Err e) ok err = err.steps

  pub look-steps : (look : Look (PickedJob W)) → OnFound look (λ p. Picks v p.slot.id p.work after last) → OnNothing look (Steps v last after × IsPlain after last) → Steps v last after
  look-steps (Found p) found none = found.steps
  look-steps Nothing found none = none.0
  look-steps Over found none = none.0
