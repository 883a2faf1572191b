-- A whole turn: what its seat has with the lock, what it may leave, and what the seat knows then.
use Rattle.std.proofs.Common.{◌≡◌, ◌≢◌, ◌≤◌, ◌+◌, ◌⊎◌, ⊎_elim, inl, inr, ℕ, suc, Bool, true, false, cond, eq-eqb, ne_eqb, List, [], ◌∷◌, ◌++◌, map, take, length, filter, refl, sym, ap, ◌∙◌, subst, append-nil, append_assoc, length-append, arith, Option, None}
use Rattle.std.proofs.lemmas.Option.{slice_get_within}
use Rattle.std.proofs.lemmas.List.{take-append-le}
use Rattle.std.proofs.lemmas.List.Elements.{filter_map-append, All-push}
use Rattle.resil_rule.proofs.LegalLaws.{legal-push}
use Rattle.resil_rule.proofs.TimesLaws.{times-append}
use Rattle.resil_lock.specs.declared.protocol.Phase.TheVariants.{Holding}
use Rattle.resil_lock.specs.Lock.{IsNumbering, IsCovered, holder_view, left_view}
use Rattle.resil_lock.proofs.LogLaws.{pick_of, end_of, times-more}
use Rattle.resil_pool.specs.Words.{IsPrefix, PlanView, Sizes, IsAllowed, IsLegal, is_among, started, started_id, taken, taken_id, times, Id, Event, Submit, Take, Close, MachineView, jobs_in_flight, Row, LoggedEvent, Note, PoolOpening, PoolState, TableId}
use Rattle.resil_lock.specs.declared.log.Note.TheVariants as note
use Rattle.resil_pool.specs.declared.lock.logged_event.Carried.{Carried}
use Rattle.resil_pool.specs.Lock.{NamesCaller, AllNameCallers, log_event, events_in, picked_in, ended_in, closer_number, is_own_note, is_own, own_in, plans_in, plan_entry, runs_in, SeesMore, SeesOwn, View, LockSeatState, IsMachineOf, MayHaveWritten, starts_of, told, IsDue, Tallies, EndsOnlyPicked, IsResting, MayWrite, IsStep, IsMoved, WritesAtMost, SeesClosing, WroteCloseAtMost, TookATurn}
use Rattle.resil_pool.specs.Parts.{IsCloser, source_of}
use Rattle.resil_pool.specs.Worker.{takes_in}
use Rattle.resil_pool.proofs.Logs.{own_in-append, events_in-append, plans_in-append, takes_in-append, numbering, few-job, due-job, take-next}
use Rattle.resil_pool.proofs.NamedCallers.{written_names}

-- the seat of this number may write these
abbrev MayWriteNote : ℕ → ℕ → Note → Type 0
MayWriteNote callers number (note.Event event) = MayWrite callers number event
MayWriteNote callers number (note.Started id) = Unit {0}

abbrev MayWriteEach : ℕ → ℕ → List LoggedEvent → Type 0
MayWriteEach callers number [] = Unit {0}
MayWriteEach callers number (entry ∷ entries) = MayWriteNote callers number entry.note × MayWriteEach callers number entries

-- what a turn wrote: the seat may have written it, and has picked each job that it ends
pub record MayHave (old : LockSeatState) (entries : List LoggedEvent) : Type 0 where
  pub may : MayWriteEach old.0.key.callers old.0.number entries
  pub due : (id : Id) → times id (ended_in old.0.own) + times id (ended_in entries) ≤ times id (picked_in old.0.own) + times id (picked_in entries)

-- A seat has taken the lock, and has the machine: it stands for the log that the seat has seen, and a job that the seat picked and hasn't ended is out.
pub record HasTurn (old : LockSeatState) (machine : MachineView) (me : LockSeatState) : Type 0 where
  pub view : me.0 ≡ holder_view old.0 me.0.seen
  pub slot : me.1 ≡ (0, None) ∷ []
  pub begins : IsPrefix old.0.seen me.0.seen
  pub same_own : own_in old.0.number me.0.seen ≡ own_in old.0.number old.0.seen
  pub home : IsMachineOf old.0.key me.0.seen machine
  pub fits : MayHaveWritten old.0.rank old.0.own
  pub out : (id : Id) → IsDue id old.0.own → is_among id (jobs_in_flight machine) ≡ true
  pub few : EndsOnlyPicked machine

-- it made the one machine the other, and wrote this
pub record Acted (old : LockSeatState) (m : MachineView) (me : LockSeatState) (entries : List LoggedEvent) (m' : MachineView) : Type 0 where
  pub took : HasTurn old m me
  pub moved : IsMoved m entries m'
  pub wrote : MayHave old entries

-- and it released the lock
pub record Turned (old : LockSeatState) (m : MachineView) (entries : List LoggedEvent) (m' : MachineView) (new : LockSeatState) : Type 0 where
  pub me : LockSeatState
  pub acted : Acted old m me entries m'
  pub slot : new.1 ≡ []
  pub left : new.0 ≡ left_view me.0 entries

-- what holds of each of two lists holds of the one that was written
pub either : {entries a b : List LoggedEvent} (P : List LoggedEvent → Type 0) → P a → P b → (entries ≡ a) ⊎ (entries ≡ b) → P entries
either P one other is = ⊎_elim (λ e. subst P (sym e) one) (λ e. subst P (sym e) other) is

-- what the lock shows a seat that takes it
abbrev pub Took : TableId → TableId → LockSeatState → LockSeatState → PoolState → Type 0
Took table table' old me state = record {
  source : table' ≡ table;
  key : me.0.key ≡ old.0.key;
  rank : me.0.rank ≡ old.0.rank;
  own : me.0.own ≡ old.0.own;
  view : me.0 ≡ holder_view old.0 me.0.seen;
  slot : me.1 ≡ (0, None) ∷ [];
  begins : IsPrefix old.0.seen me.0.seen;
  same_own : IsNumbering MayHaveWritten → own_in old.0.number me.0.seen ≡ own_in old.0.number old.0.seen;
  home : IsMachineOf me.0.key me.0.seen state.machine;
  fits : MayHaveWritten me.0.rank me.0.own;
  covered : IsCovered MayHaveWritten me.0.seen me.0.own;
}

-- so it has a turn; the state that it took was lent out of its block
pub has-turn : {table table' : TableId} {me : LockSeatState} {lent taken : PoolState} (old : LockSeatState) → lent ≡ taken → Took table table' old me taken → HasTurn old lent.machine me
has-turn {me = me} {taken = taken} old same t = subst (λ (s : PoolState). HasTurn old s.machine me) (sym same) (record {
  view = t.view;
  slot = t.slot;
  begins = t.begins;
  same_own = t.same_own numbering;
  home = subst (λ (o : PoolOpening). IsMachineOf o me.0.seen taken.machine) t.key t.home;
  fits = subst (λ (v : View). MayHaveWritten v.rank v.own) t.view t.fits;
  out = subst (λ (xs : List LoggedEvent). (id : Id) → IsDue id xs → is_among id (jobs_in_flight taken.machine) ≡ true) t.own (due-job me.0.key me.0.seen me.0.own taken.machine t.home t.covered);
  few = few-job me.0.key me.0.seen me.0.own taken.machine t.home t.covered me.0.rank t.fits;
})

-- what the turn made of the state, and wrote
pub acted : {table table' : TableId} {me : LockSeatState} {lent taken : PoolState} (old : LockSeatState) (new : PoolState) → lent ≡ taken → Took table table' old me taken → IsMoved lent.machine (told new) new.machine → (MayHaveWritten old.0.rank old.0.own → MayHave old (told new))
    → Acted old lent.machine me (told new) new.machine
acted old new same t moved may = let took = has-turn old same t in record { took = took; moved = moved; wrote = may took.fits }

pub legal_there : {old me : LockSeatState} {machine : MachineView} → HasTurn old machine me → IsLegal machine.limits machine.history
legal_there h = subst (λ (y : Sizes × List Event). IsLegal y.0 y.1) (λ i. (sym h.home.home.sized i, sym h.home.home.history i)) h.home.legal

-- the job that an event picked is the one that it took
event-picked : (payload : Carried) (e : Event) → picked_in (record { note = note.Event e; payload = payload } ∷ []) ≡ taken (e ∷ [])
event-picked payload (Take id) = refl
event-picked payload _ = refl

-- the log with what a turn wrote is that of the machine that it left
step-stands : (opening : PoolOpening) (log : List LoggedEvent) (m m' : MachineView) (number : ℕ) (plan : Option PlanView) (ended : Option Row) (written : Note) → IsMachineOf opening log m → IsStep plan m written m' → MayWriteNote opening.callers number written
    → IsMachineOf opening (log ++ record { note = written; payload = record { plan = plan; ended = ended } } ∷ []) m'
step-stands opening log m m' number plan ended (note.Event e) is step own =
    let entry : LoggedEvent = record { note = note.Event e; payload = record { plan = plan; ended = ended } } in
    let events : events_in (log ++ entry ∷ []) ≡ events_in log ++ e ∷ [] = events_in-append log (entry ∷ []) in
    let grown : started m'.history ≡ started m.history ++ started (e ∷ []) = ap started step.0.history ∙ filter_map-append started_id m.history (e ∷ []) in
    let same = step.1 in
    let few = is.within in
    let longer = ap length grown ∙ length-append (started m.history) (started (e ∷ [])) in
    let starts : starts_of m' ≡ starts_of m = (λ i. take (step.1 i) (grown i)) ∙ take-append-le m.picked (started m.history) (started (e ∷ [])) is.within in record {
      home = record {
        sized = step.0.sized ∙ is.home.sized;
        history = step.0.history ∙ (ap (λ (h : List Event). h ++ e ∷ []) is.home.history ∙ sym events);
        plans = step.0.plans ∙ (ap (λ (xs : List (Id × Option PlanView)). xs ++ plans_in (log_event plan e ∷ [])) is.home.plans ∙ sym (plans_in-append log (entry ∷ [])));
      };
      legal = subst (IsLegal opening.limits) (sym events) (legal-push opening.limits (events_in log) e is.legal (subst (λ (y : Sizes × List Event). IsAllowed y.0 y.1 e) (λ i. (is.home.sized i, is.home.history i)) step.0.allowed));
      names = subst (AllNameCallers opening.callers) (sym events) (All-push (NamesCaller opening.callers) (events_in log) e is.names (written_names opening.callers number e own));
      picks = λ id.
          let old = is.picks id in
          let more = times-more pick_of id log (entry ∷ []) in
          let one = ap (times id) (event-picked entry.payload e) in
          let now = ap (λ (h : List Event). times id (taken h)) step.0.history ∙ (ap (times id) (filter_map-append taken_id m.history (e ∷ [])) ∙ times-append id (taken m.history) (taken (e ∷ []))) in
          let early = ap (times id) starts in
          omega (arith, old, more, one, now, early);
      within = omega (arith, same, few, longer);
    }
step-stands opening log m m' number plan ended (note.Started id) is step own =
    let entry : LoggedEvent = record { note = note.Started id; payload = record { plan = plan; ended = ended } } in
    let events : events_in (log ++ entry ∷ []) ≡ events_in log = events_in-append log (entry ∷ []) ∙ append-nil (events_in log) in
    let suc_is : suc m.picked ≡ m.picked + 1 = omega arith in
    let starts : starts_of m' ≡ starts_of m ++ id ∷ [] = ap starts_of step.1 ∙ (ap (λ (n : ℕ). take n (started m.history)) (sym suc_is) ∙ take-next m.picked (started m.history) id step.0) in
    let inside = slice_get_within (started m.history) m.picked id step.0 in
    let picked = ap (λ (x : MachineView). x.picked) step.1 in
    let same = ap (λ (x : MachineView). length (started x.history)) step.1 in record {
      home = record {
        sized = ap (λ (x : MachineView). x.limits) step.1 ∙ is.home.sized;
        history = ap (λ (x : MachineView). x.history) step.1 ∙ (is.home.history ∙ sym events);
        plans = ap (λ (x : MachineView). map plan_entry x.jobs) step.1 ∙ (is.home.plans ∙ sym (plans_in-append log (entry ∷ []) ∙ append-nil (plans_in log)));
      };
      legal = subst (IsLegal opening.limits) (sym events) is.legal;
      names = subst (AllNameCallers opening.callers) (sym events) is.names;
      picks = λ x.
          let old = is.picks x in
          let more : times x (picked_in (log ++ entry ∷ [])) ≡ times x (picked_in log) + times x (id ∷ []) = times-more pick_of x log (entry ∷ []) in
          let now = ap (times x) starts ∙ times-append x (starts_of m) (id ∷ []) in
          let takes = ap (λ (y : MachineView). times x (taken y.history)) step.1 in
          omega (arith, old, more, now, takes);
      within = omega (arith, inside, picked, same);
    }

stands : (opening : PoolOpening) (log : List LoggedEvent) (m m' : MachineView) (number : ℕ) (entries : List LoggedEvent) → IsMachineOf opening log m → IsMoved m entries m' → MayWriteEach opening.callers number entries → IsMachineOf opening (log ++ entries) m'
stands opening log m m' number [] is moved own = subst (λ (x : List LoggedEvent × MachineView). IsMachineOf opening x.0 x.1) (λ i. (sym (append-nil log) i, sym moved i)) is
stands opening log m m' number (entry ∷ []) is moved own = step-stands opening log m m' number entry.payload.plan entry.payload.ended entry.note is moved own.0
stands opening log m m' number (entry ∷ next ∷ entries) is moved own = absurd moved

-- what a seat may write is no other seat's own
other-note : (callers number j : ℕ) → j ≢ number → (written : Note) → MayWriteNote callers number written → is_own_note j written ≡ false
other-note callers number j apart (note.Event (Submit id reply)) mine = ne_eqb id.caller j (λ same. apart (sym same ∙ mine.0))
other-note callers number j apart (note.Event Close) mine = ne_eqb j 0 (λ same. apart (same ∙ sym mine))
other-note callers number j apart _ mine = refl

others-own : (callers number j : ℕ) → j ≢ number → (entries : List LoggedEvent) → MayWriteEach callers number entries → own_in j entries ≡ []
others-own callers number j apart [] own = refl
others-own callers number j apart (entry ∷ entries) own = ap (λ (b : Bool). cond b (entry ∷ own_in j entries) (own_in j entries)) (other-note callers number j apart entry.note own.0) ∙ others-own callers number j apart entries own.1

-- what the release asks for
pub gives : {old me : LockSeatState} {m m' : MachineView} {entries : List LoggedEvent} {table lock : TableId} → table ≡ lock → Acted old m me entries m' → record {
  source : table ≡ lock;
  slot : me.1 ≡ (0, None) ∷ [];
  holds : me.0.phase ≡ Holding;
  home : IsMachineOf me.0.key (me.0.seen ++ entries) m';
  fits : MayHaveWritten me.0.rank (me.0.own ++ entries);
  own : IsNumbering MayHaveWritten → (j : ℕ) → j ≢ me.0.number → filter (is_own j) entries ≡ [];
}
gives {old} {me} {m} {m'} {entries} source a =
    let same = sym a.took.view in record {
      source = source;
      slot = a.took.slot;
      holds = ap (λ (v : View). v.phase) a.took.view;
      home = subst (λ (v : View). IsMachineOf v.key (v.seen ++ entries) m') same (stands old.0.key me.0.seen m m' old.0.number entries a.took.home a.moved a.wrote.may);
      fits = subst (λ (v : View). MayHaveWritten v.rank (v.own ++ entries)) same (record {
        numbered = a.took.fits.numbered;
        balanced = λ id. let p = times-more pick_of id old.0.own entries in let e = times-more end_of id old.0.own entries in let d = a.wrote.due id in omega (arith, p, e, d);
      });
      own = subst (λ (v : View). IsNumbering MayHaveWritten → (j : ℕ) → j ≢ v.number → filter (is_own j) entries ≡ []) same (λ _ j apart. others-own old.0.key.callers old.0.number j apart entries a.wrote.may);
    }

-- what it shows
pub turned : {old me new : LockSeatState} {m m' : MachineView} {entries : List LoggedEvent} {table table' : TableId} → Acted old m me entries m' → record { source : table' ≡ table; slot : new.1 ≡ []; seen : new.0 ≡ left_view me.0 entries } → Turned old m entries m' new
turned a r = record { me = _; acted = a; slot = r.slot; left = r.seen }

-- what was written isn't an event of the seat's own, and ends no job
pub record IsQuiet (callers number : ℕ) (entries : List LoggedEvent) : Type 0 where
  pub may : MayWriteEach callers number entries
  pub own : own_in number entries ≡ []
  pub ends : ended_in entries ≡ []
  pub runs : runs_in entries ≡ []

pub ends-none : (old : LockSeatState) (entries : List LoggedEvent) → MayHaveWritten old.0.rank old.0.own → MayWriteEach old.0.key.callers old.0.number entries → ended_in entries ≡ [] → MayHave old entries
ends-none old entries fits may ends = record { may = may; due = λ id. let b = fits.balanced id in let e = ap (times id) ends in omega (arith, b, e) }

pub may-close : (old : LockSeatState) (entries : List LoggedEvent) → MayHaveWritten old.0.rank old.0.own → old.0.number ≡ closer_number → WritesAtMost Close entries → MayHave old entries
may-close old entries fits first closes = either (MayHave old) (ends-none old [] fits tt refl) (ends-none old (log_event None Close ∷ []) fits (first, tt) refl) closes

pub acted-close : {table table' : TableId} {me : LockSeatState} {lent taken : PoolState} (old : LockSeatState) (new : PoolState) → lent ≡ taken → Took table table' old me taken → IsMoved lent.machine (told new) new.machine → old.0.number ≡ closer_number → WritesAtMost Close (told new)
    → Acted old lent.machine me (told new) new.machine
acted-close old new same t moved first closes = acted old new same t moved (λ fits. may-close old (told new) fits first closes)

-- what a turn showed its seat
module _ {old : LockSeatState} {m : MachineView} {entries : List LoggedEvent} {m' : MachineView} {new : LockSeatState} (t : Turned old m entries m' new) where
  pub view-now : new.0 ≡ left_view (holder_view old.0 t.me.0.seen) entries
  view-now = t.left ∙ ap (λ (v : View). left_view v entries) t.acted.took.view

  pub saw : new.0.seen ≡ t.me.0.seen ++ entries
  saw = ap (λ (v : View). v.seen) view-now

  pub own-now : new.0.own ≡ old.0.own ++ entries
  own-now = ap (λ (v : View). v.own) view-now

  pub key-now : new.0.key ≡ old.0.key
  key-now = ap (λ (v : View). v.key) view-now

  pub rests-now : IsResting new
  rests-now = record { idle = ap (λ (v : View). v.phase) view-now; no_slot = t.slot }

  -- the machine that was left stands for what the seat has seen now
  pub home-now : IsMachineOf old.0.key new.0.seen m'
  home-now = subst (λ (xs : List LoggedEvent). IsMachineOf old.0.key xs m') (sym saw) (stands old.0.key t.me.0.seen m m' old.0.number entries t.acted.took.home t.acted.moved t.acted.wrote.may)

  pub begins-now : IsPrefix old.0.seen new.0.seen
  begins-now = (t.acted.took.begins.0 ++ entries, sym (append_assoc old.0.seen t.acted.took.begins.0 entries) ∙ (ap (λ (xs : List LoggedEvent). xs ++ entries) t.acted.took.begins.1 ∙ sym saw))

  own-events : own_in old.0.number new.0.seen ≡ own_in old.0.number old.0.seen ++ own_in old.0.number entries
  own-events = ap (own_in old.0.number) saw ∙ (own_in-append old.0.number t.me.0.seen entries ∙ ap (λ (xs : List LoggedEvent). xs ++ own_in old.0.number entries) t.acted.took.same_own)

  pub sees-more : own_in old.0.number entries ≡ [] → SeesMore old.0.key.limits old.0.number old.0.seen new.0.seen
  sees-more none = record {
    legal = home-now.legal;
    begins = begins-now;
    same_own = own-events ∙ (ap (λ (xs : List LoggedEvent). own_in old.0.number old.0.seen ++ xs) none ∙ append-nil (own_in old.0.number old.0.seen));
  }

  pub sees-own : (entry : LoggedEvent) → entries ≡ entry ∷ [] → own_in old.0.number (entry ∷ []) ≡ entry ∷ [] → SeesOwn old.0.key.limits old.0.number old.0.seen entry new.0.seen
  sees-own entry is mine = record {
    legal = home-now.legal;
    begins = begins-now;
    more_own = own-events ∙ ap (λ (xs : List LoggedEvent). own_in old.0.number old.0.seen ++ xs) (ap (own_in old.0.number) is ∙ mine);
    before = t.me.0.seen;
    ends = saw ∙ ap (λ (xs : List LoggedEvent). t.me.0.seen ++ xs) is;
    there = tt;
  }

  pub took-turn : own_in old.0.number entries ≡ [] → TookATurn old new
  took-turn none = record { rest = rests-now; limits = key-now; seen = sees-more none }

  pub wrote-none : entries ≡ [] → new.0.own ≡ old.0.own
  wrote-none is = own-now ∙ (ap (λ (xs : List LoggedEvent). old.0.own ++ xs) is ∙ append-nil old.0.own)

  pub wrote-one : (entry : LoggedEvent) → entries ≡ entry ∷ [] → new.0.own ≡ old.0.own ++ entry ∷ []
  wrote-one entry is = own-now ∙ ap (λ (xs : List LoggedEvent). old.0.own ++ xs) is

  -- the runs with which the seat has ended jobs, and the jobs that it took from the queue
  pub runs-now : runs_in new.0.own ≡ runs_in old.0.own ++ runs_in entries
  runs-now = ap runs_in own-now ∙ filter_map-append (λ (n : LoggedEvent). n.payload.ended) old.0.own entries

  pub takes-now : takes_in new.0.own ≡ takes_in old.0.own ++ takes_in entries
  takes-now = ap takes_in own-now ∙ takes_in-append old.0.own entries

  pub tallies-now : (exact : List LoggedEvent) → entries ≡ exact → Tallies old.0.own (picked_in exact) (ended_in exact) new.0.own
  tallies-now exact is = subst (λ (xs : List LoggedEvent). Tallies old.0.own (picked_in xs) (ended_in xs) new.0.own) is (record {
    picked = λ id. ap (λ (xs : List LoggedEvent). times id (picked_in xs)) own-now ∙ times-more pick_of id old.0.own entries;
    ended = λ id. ap (λ (xs : List LoggedEvent). times id (ended_in xs)) own-now ∙ times-more end_of id old.0.own entries;
  })

  -- a closing
  module _ (first : old.0.number ≡ closer_number) (closes : WritesAtMost Close entries) where
    pub sees-closing : SeesClosing old.0.key.limits old.0.seen new.0.seen
    sees-closing = subst (λ (j : ℕ). SeesMore old.0.key.limits j old.0.seen new.0.seen ⊎ SeesOwn old.0.key.limits j old.0.seen (log_event None Close) new.0.seen) first (⊎_elim
        (λ (e : entries ≡ []). inl (sees-more (ap (own_in old.0.number) e)))
        (λ (e : entries ≡ log_event None Close ∷ []). inr (sees-own (log_event None Close) e (ap (λ (b : Bool). cond b (log_event None Close ∷ []) []) (eq-eqb old.0.number 0 first))))
        closes)

    pub wrote-closing : WroteCloseAtMost old.0.own new.0.own
    wrote-closing = ⊎_elim (λ (e : entries ≡ []). inl (wrote-none e)) (λ (e : entries ≡ log_event None Close ∷ []). inr (wrote-one (log_event None Close) e)) closes

-- what is seen after a closing is legal, and begins with what was seen
pub closing-more : (limits : Sizes) (old new : List LoggedEvent) → SeesClosing limits old new → IsLegal limits (events_in new) × IsPrefix old new
closing-more limits old new seen = ⊎_elim
    (λ (s : SeesMore limits closer_number old new). (s.legal, s.begins))
    (λ (s : SeesOwn limits closer_number old (log_event None Close) new). (s.legal, s.begins))
    seen

pub closer-stays : {old : LockSeatState} {m : MachineView} {entries : List LoggedEvent} {m' : MachineView} {new : LockSeatState} → Turned old m entries m' new → IsCloser old → IsCloser new
closer-stays {new = new} t is = record {
  rest = rests-now t;
  first = ap (λ (v : View). v.number) (view-now t) ∙ is.first;
  legal = subst (λ (key : PoolOpening). IsLegal key.limits (events_in new.0.seen)) (sym (key-now t)) (home-now t).legal;
}

pub same-source : {old : LockSeatState} {m : MachineView} {entries : List LoggedEvent} {m' : MachineView} {new : LockSeatState} (table table' : TableId) → Turned old m entries m' new → table' ≡ table → source_of table' new ≡ source_of table old
same-source table table' t same = λ i. record { table_id = same i; limits = (key-now t i).limits; callers = (key-now t i).callers }
