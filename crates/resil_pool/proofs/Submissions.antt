-- A caller's turns: a submission, and a resize.
use Rattle.std.proofs.Common.{◌≡◌, ◌≢◌, ne_eqb, ℕ, ◌+◌, ◌≤◌, Bool, true, false, cond, List, [], ◌∷◌, ◌++◌, map, length, refl, sym, ap, ◌∙◌, subst, arith, Some, None, Result, Ok, Err, OnOk, OnErr, eq-eqb}
use Rattle.std.specs.List.{cons_option}
use Rattle.std.proofs.lemmas.List.{map-append, length-map}
use Rattle.resil_rule.specs.declared.error.AdmitError.TheVariants as cause
use Rattle.resil_pool.specs.Words.{AdmitError, TableId, PlanView, is_submit_of, submissions, next_number, IsLegal, MachineView, IsSubmitRefusal, Id, Reply, Event, Submit, Close, Resized, LoggedEvent, Note, PoolOpening, Receipt}
use Rattle.resil_lock.specs.declared.log.Note.TheVariants as note
use Rattle.resil_pool.specs.Lock.{log_event, event_of, events_in, closer_number, is_own_event, is_own_note, own_in, SeesOwn, View, LockSeatState, MayHaveWritten, IsMoved}
use Rattle.resil_pool.specs.Resize.{SeesResize}
use Rattle.resil_pool.specs.Submit.{AnswersSubmission}
use Rattle.resil_pool.specs.Parts.{CallerView, caller_view, submission_id, submit_of, submission_of, IsCaller}
use Rattle.resil_pool.proofs.MachineCalls.{submission-step}
use Rattle.resil_pool.proofs.TurnLaws.{HasTurn, MayHave, Turned, ends-none, saw, view-now, rests-now, key-now, sees-more, sees-own}

-- a caller's seat isn't the closer's
pub is_not_closer : (me : LockSeatState) (number : ℕ) (receipts : List Receipt) → IsCaller me number receipts → me.0.number ≢ closer_number
is_not_closer me number receipts is first = is.not_closer (sym is.numbered ∙ first)

-- what a submission leaves may be given back
pub submission-moved : (old new : MachineView) (id : Id) (job : PlanView) (answer : Result Reply (AdmitError × PlanView)) (entries : List LoggedEvent) → AnswersSubmission old id job answer entries new → IsMoved old entries new
submission-moved old new id job (Ok reply) entries s = subst (λ (xs : List LoggedEvent). IsMoved old xs new) (sym s.told) (submission-step old new id reply job s.allowed s.event)
submission-moved old new id job (Err e) entries s = subst (λ (xs : List LoggedEvent). IsMoved old xs new) (sym s.nothing) s.unchanged

pub submission-may : (seat : LockSeatState) (number next : ℕ) (receipts : List Receipt) (old new : MachineView) (job : PlanView) (answer : Result Reply (AdmitError × PlanView)) (entries : List LoggedEvent) → MayHaveWritten seat.0.rank seat.0.own → IsCaller seat number receipts
    → AnswersSubmission old (submission_id number next) job answer entries new → MayHave seat entries
submission-may seat number next receipts old new job (Ok reply) entries fits is s =
    let event : LoggedEvent = log_event (Some job) (Submit (submission_id number next) reply) in
    subst (MayHave seat) (sym s.told) (ends-none seat (event ∷ []) fits ((sym is.numbered, is_not_closer seat number receipts is, subst (λ (n : ℕ). n ≤ seat.0.key.callers) (sym is.numbered) is.within), tt) refl)
submission-may seat number next receipts old new job (Err e) entries fits is s = subst (MayHave seat) (sym s.nothing) (ends-none seat [] fits tt refl)

pub own-submission : (number : ℕ) (receipt : Receipt) → own_in number (submission_of number receipt ∷ []) ≡ submission_of number receipt ∷ []
own-submission number receipt = ap (λ (b : Bool). cond b (submission_of number receipt ∷ []) []) (eq-eqb number number refl)

-- a caller after a turn: with one more receipt, or with the same
module _ {old : LockSeatState} {m : MachineView} {entries : List LoggedEvent} {m' : MachineView} {new : LockSeatState} (t : Turned old m entries m' new) (number : ℕ) (receipts : List Receipt) (is : IsCaller old number receipts) where
  caller-now : (now : List Receipt) → IsLegal old.0.key.limits (events_in new.0.seen) → own_in old.0.number new.0.seen ≡ map (submission_of number) now → IsCaller new number now
  caller-now now legal own = record {
    rest = rests-now t;
    member = ap (λ (v : View). v.rank) (view-now t) ∙ is.member;
    numbered = ap (λ (v : View). v.number) (view-now t) ∙ is.numbered;
    not_closer = is.not_closer;
    within = subst (λ (key : PoolOpening). number ≤ key.callers) (sym (key-now t)) is.within;
    legal = subst (λ (key : PoolOpening). IsLegal key.limits (events_in new.0.seen)) (sym (key-now t)) legal;
    own = ap (λ (j : ℕ). own_in j new.0.seen) (sym is.numbered) ∙ own;
  }

  mine : own_in old.0.number old.0.seen ≡ map (submission_of number) receipts
  mine = ap (λ (j : ℕ). own_in j old.0.seen) is.numbered ∙ is.own

  -- what it sees of a submission of its own
  sees-submission : (receipt : Receipt) → entries ≡ submission_of number receipt ∷ [] → SeesOwn old.0.key.limits old.0.number old.0.seen (submission_of number receipt) new.0.seen
  sees-submission receipt told = sees-own t (submission_of number receipt) told (subst (λ (j : ℕ). own_in j (submission_of number receipt ∷ []) ≡ submission_of number receipt ∷ []) (sym is.numbered) (own-submission number receipt))

  pub caller-after : (receipt : Receipt) → entries ≡ submission_of number receipt ∷ [] → IsCaller new number (receipts ++ receipt ∷ [])
  caller-after receipt told =
      let sees = sees-submission receipt told in
      caller-now (receipts ++ receipt ∷ []) sees.legal (sees.more_own ∙ (ap (λ (xs : List LoggedEvent). xs ++ submission_of number receipt ∷ []) mine ∙ sym (map-append (submission_of number) receipts (receipt ∷ []))))

  pub caller-same : own_in old.0.number entries ≡ [] → IsCaller new number receipts
  caller-same none = let sees = sees-more t none in caller-now receipts sees.legal (sees.same_own ∙ mine)

  -- what it shows a caller
  module _ (caller : CallerView) (table : TableId) (same : caller_view table old number receipts ≡ caller) where
    pub caller-saw : (receipt : Receipt) → entries ≡ submission_of number receipt ∷ [] → SeesOwn caller.source.limits caller.number caller.seen (submission_of caller.number receipt) new.0.seen
    caller-saw receipt told = subst (λ (k : CallerView). SeesOwn k.source.limits k.number k.seen (submission_of k.number receipt) new.0.seen) same (subst (λ (j : ℕ). SeesOwn old.0.key.limits j old.0.seen (submission_of number receipt) new.0.seen) is.numbered (sees-submission receipt told))

-- a caller's own events are its submissions
own_submissions : (c : ℕ) (e : Event) → c ≢ closer_number → is_own_event c e ≡ is_submit_of c e
own_submissions c (Submit id reply) apart = refl
own_submissions c Close apart = ne_eqb c 0 apart
own_submissions c _ apart = refl

-- a caller's submissions in the history are its own events in the log
submissions-own : (c : ℕ) (log : List LoggedEvent) → c ≢ closer_number → submissions (events_in log) c ≡ events_in (own_in c log)
submissions-own c [] apart = refl
submissions-own c (n ∷ log) apart = by n.note refl (submissions-own c log apart)
  where
    both : (e : Event) (b : Bool) → n.note ≡ note.Event e → submissions (events_in log) c ≡ events_in (own_in c log) → cond b (e ∷ submissions (events_in log) c) (submissions (events_in log) c) ≡ events_in (cond b (n ∷ own_in c log) (own_in c log))
    both e true at rest = ap (λ (es : List Event). e ∷ es) rest ∙ sym (ap (λ (x : Note). cons_option (event_of x) (events_in (own_in c log))) at)
    both e false at rest = rest

    by : (written : Note) → n.note ≡ written → submissions (events_in log) c ≡ events_in (own_in c log) → submissions (cons_option (event_of written) (events_in log)) c ≡ events_in (cond (is_own_note c written) (n ∷ own_in c log) (own_in c log))
    by (note.Event e) at rest = ap (λ (b : Bool). cond b (e ∷ submissions (events_in log) c) (submissions (events_in log) c)) (sym (own_submissions c e apart)) ∙ both e (is_own_event c e) at rest
    by (note.Started id) at rest = rest

events_of_receipts : (c : ℕ) (receipts : List Receipt) → events_in (map (submission_of c) receipts) ≡ map (submit_of c) receipts
events_of_receipts c [] = refl
events_of_receipts c (r ∷ receipts) = ap (λ (es : List Event). submit_of c r ∷ es) (events_of_receipts c receipts)

-- where a caller's own entries are its submissions with the plans on its receipts, its submissions in the history are those on its receipts
pub submissions_of_entries : (c : ℕ) (log : List LoggedEvent) (receipts : List Receipt) → c ≢ closer_number → own_in c log ≡ map (submission_of c) receipts → submissions (events_in log) c ≡ map (submit_of c) receipts
submissions_of_entries c log receipts apart own = submissions-own c log apart ∙ (ap events_in own ∙ events_of_receipts c receipts)

-- a caller's own entries, where a seat has seen no others of its than the caller has
pub entries_of_caller : (me : LockSeatState) (number : ℕ) (receipts : List Receipt) (seen : List LoggedEvent) → IsCaller me number receipts → own_in me.0.number seen ≡ own_in me.0.number me.0.seen → own_in number seen ≡ map (submission_of number) receipts
entries_of_caller me number receipts seen is own = subst (λ (j : ℕ). own_in j seen ≡ own_in j me.0.seen) is.numbered own ∙ is.own

-- the number after a caller's last receipt is the one that the history needs
pub right_number : (old me : LockSeatState) (machine : MachineView) (number : ℕ) (receipts : List Receipt) → HasTurn old machine me → IsCaller old number receipts → length receipts + 1 ≡ next_number machine.history number
right_number old me machine number receipts h is =
    let own : own_in number me.0.seen ≡ map (submission_of number) receipts = subst (λ (j : ℕ). own_in j me.0.seen ≡ own_in j old.0.seen) is.numbered h.same_own ∙ is.own in
    let count : length (submissions machine.history number) ≡ length receipts =
    ap (λ (es : List Event). length (submissions es number)) h.home.home.history ∙ (ap length (submissions_of_entries number me.0.seen receipts is.not_closer own) ∙ length-map receipts (submit_of number)) in
    omega arith

-- so a refusal is want of memory
pub refused_for_memory : (machine : MachineView) (id : Id) (error : AdmitError) → IsSubmitRefusal machine id error → id.number ≡ next_number machine.history id.caller → error ≡ cause.Memory
refused_for_memory machine id cause.WrongNumber is right = absurd (is right)
refused_for_memory machine id cause.Memory is right = refl
refused_for_memory machine id _ is right = absurd is

-- what holds of what was written, and of what was written otherwise, holds as the answer says
as_told : {A E : Type 0} {written other entries : List LoggedEvent} (P : List LoggedEvent → Type 0) (answer : Result A E) → P written → P other → OnOk answer (entries ≡ written) → OnErr answer (entries ≡ other) → P entries
as_told P (Ok x) p q is _ = subst P (sym is) p
as_told P (Err x) p q _ is = subst P (sym is) q

-- a resize to these sizes was written, or nothing, as the answer says
module _ {A E : Type 0} (core max : ℕ) (answer : Result A E) (entries : List LoggedEvent) (one : OnOk answer (entries ≡ log_event None (Resized core max) ∷ [])) (none : OnErr answer (entries ≡ [])) where
  pub resize-may : (old : LockSeatState) → MayHaveWritten old.0.rank old.0.own → old.0.number ≢ closer_number → MayHave old entries
  resize-may old fits apart = as_told (MayHave old) answer (ends-none old (log_event None (Resized core max) ∷ []) fits (apart, tt) refl) (ends-none old [] fits tt refl) one none

  pub resize-own : (number : ℕ) → own_in number entries ≡ []
  resize-own number = as_told (λ (xs : List LoggedEvent). own_in number xs ≡ []) answer refl refl one none

-- the resize was written
pub sees-resize : {old : LockSeatState} {m : MachineView} {entries : List LoggedEvent} {m' : MachineView} {new : LockSeatState} (core max : ℕ) → Turned old m entries m' new → entries ≡ log_event None (Resized core max) ∷ []
    → SeesResize old.0.key.limits old.0.number old.0.seen core max new.0.seen
sees-resize {old} core max t is =
    let more = sees-more t (ap (own_in old.0.number) is) in record {
      legal = more.legal;
      before = t.me.0.seen;
      begins = t.acted.took.begins;
      ends = saw t ∙ ap (λ (xs : List LoggedEvent). t.me.0.seen ++ xs) is;
      same_own = more.same_own;
    }
