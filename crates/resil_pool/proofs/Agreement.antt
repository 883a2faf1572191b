-- The answers to callers agree with the history and the results of their pool's machine.
use Rattle.std.proofs.Common.{◌≡◌, ◌-◌, ℕ, Bool, cond, List, [], ◌∷◌, ◌++◌, map, length, refl, sym, ap, ◌∙◌, subst, arith, append_assoc, append-nil, eq-eqb, Option, Some}
use Rattle.std.specs.Prelude.{All, Contains, option_map, slice_get}
use Rattle.std.specs.List.{cons_option}
use Rattle.std.proofs.lemmas.List.Elements.{All-nil, All-cons, All-head, All-tail, All-contains, Contains-append_right}
use Rattle.std.proofs.lemmas.List.{length-map}
use Rattle.std.proofs.lemmas.Option.{same_Some}
use Rattle.resil_rule.specs.declared.event.Reply.TheVariants.{Core, Queued, Extra}
use Rattle.resil_pool.specs.Words.{PlanView, Sizes, submissions, IsAllowed, AreAllowedAfter, IsLegal, Id, Reply, Event, Submit, MachineView, AreResultsOf, Accepted, Row, LoggedEvent, Note, Receipt}
use Rattle.resil_lock.specs.declared.log.Note.TheVariants as note
use Rattle.resil_pool.specs.Lock.{NamesCaller, AllNameCallers, events_in, is_own_note, event_of, accepted_of, own_in, plans_in, plan_entry, MatchesLog}
use Rattle.resil_pool.specs.Parts.{CallerView, submit_of, submission_of}
use Rattle.resil_pool.specs.Draining.{receipts_at, AreLogged, IsGathered, HasNumberedReceipt, HasReceipt, AgreeWithReceipts, with_runs}
use Rattle.resil_pool.specs.NamedCallers.{KeepsNames}
use Rattle.resil_pool.proofs.Logs.{own_in-append, events_in-append}
use Rattle.resil_pool.proofs.MachineCalls.{filed-with_run}
use Rattle.resil_pool.proofs.Submissions.{submissions_of_entries}
use Rattle.resil_pool.proofs.JoinedCallers.{still_submissions}

-- the plan of an accepted job is on the receipt of its submission
record EntryHasReceipt (lists : List (List Receipt)) (entry : Id × Option PlanView) : Type 0 where
  pub numbered : HasNumberedReceipt lists entry.0
  pub plan : entry.1 ≡ Some numbered.receipt.plan

-- what is in a log after these is the submission of the receipt after theirs
record IsReceiptAfter (caller : ℕ) (receipts : List Receipt) (front : List LoggedEvent) (n : LoggedEvent) : Type 0 where
  pub first : List Receipt
  pub receipt : Receipt
  pub told : front ≡ map (submission_of caller) first
  pub there : slice_get receipts (length first) ≡ Some receipt
  pub is : submission_of caller receipt ≡ n

receipt_after : (caller : ℕ) (receipts : List Receipt) (front back : List LoggedEvent) (n : LoggedEvent) → map (submission_of caller) receipts ≡ front ++ n ∷ back → IsReceiptAfter caller receipts front n
receipt_after caller [] [] back n same = absurd (cc same)
receipt_after caller [] (x ∷ front) back n same = absurd (cc same)
receipt_after caller (receipt ∷ receipts) [] back n same = record { first = []; receipt = receipt; told = refl; there = refl; is = cc same }
receipt_after caller (receipt ∷ receipts) (x ∷ front) back n same =
    let here : x ≡ submission_of caller receipt = cc same in
    let tail : map (submission_of caller) receipts ≡ front ++ n ∷ back = cc same in
    let rest = receipt_after caller receipts front back n tail in
    record { first = receipt ∷ rest.first; receipt = rest.receipt; told = λ i. here i ∷ rest.told i; there = rest.there; is = rest.is }

-- an event of a legal history was allowed after those before it
allowed_at : (limits : Sizes) (before front : List Event) (event : Event) (back : List Event) → AreAllowedAfter limits before (front ++ event ∷ back) → IsAllowed limits (before ++ front) event
allowed_at limits before [] event back legal = subst (λ (h : List Event). IsAllowed limits h event) (sym (append-nil before)) legal.0
allowed_at limits before (x ∷ front) event back legal = subst (λ (h : List Event). IsAllowed limits h event) (append_assoc before (x ∷ []) front) (allowed_at limits (before ++ x ∷ []) front event back legal.1)

abbrev number_of : Note → ℕ
number_of (note.Event (Submit id reply)) = id.number
number_of _ = 0

module _ (limits : Sizes) (callers : ℕ) (log : List LoggedEvent) (lists : List (List Receipt)) (many : length lists ≡ callers) (logged : AreLogged log lists) (legal : IsLegal limits (events_in log)) (names : AllNameCallers callers (events_in log)) where
  -- a submission in the log is on a receipt of the caller that it names, at its number
  one_entry : (before after : List LoggedEvent) (n : LoggedEvent) (id : Id) (reply : Reply) → log ≡ before ++ n ∷ after → n.note ≡ note.Event (Submit id reply) → EntryHasReceipt lists (id, n.payload.plan)
  one_entry before after n id reply is event =
      let events : events_in log ≡ events_in before ++ Submit id reply ∷ events_in after =
      ap events_in is ∙ (events_in-append before (n ∷ after) ∙ ap (λ (x : Note). events_in before ++ cons_option (event_of x) (events_in after)) event) in
      let there : Contains (events_in log) (Submit id reply) = subst (λ (h : List Event). Contains h (Submit id reply)) (sym events) (Contains-append_right (events_in before) (Submit id reply ∷ events_in after) (Submit id reply) (0, omega arith, refl)) in
      let named : NamesCaller callers (Submit id reply) = All-contains (NamesCaller callers) (events_in log) (Submit id reply) names there in
      let low = named.0 in
      let high = named.1 in
      let allowed : IsAllowed limits (events_in before) (Submit id reply) = allowed_at limits [] (events_in before) (Submit id reply) (events_in after) (subst (IsLegal limits) events legal) in
      let kept : own_in id.caller (n ∷ after) ≡ n ∷ own_in id.caller after =
      ap (λ (b : Bool). cond b (n ∷ own_in id.caller after) (own_in id.caller after)) (ap (is_own_note id.caller) event ∙ eq-eqb id.caller id.caller refl) in
      let mine : own_in id.caller log ≡ own_in id.caller before ++ n ∷ own_in id.caller after =
      ap (own_in id.caller) is ∙ (own_in-append id.caller before (n ∷ after) ∙ ap (λ (xs : List LoggedEvent). own_in id.caller before ++ xs) kept) in
      let at = receipt_after id.caller (receipts_at lists id.caller) (own_in id.caller before) (own_in id.caller after) n (sym (logged id.caller low (omega arith)) ∙ mine) in
      let count : length (submissions (events_in before) id.caller) ≡ length at.first =
      ap length (submissions_of_entries id.caller before at.first (λ e. absurd (omega arith)) at.told) ∙ length-map at.first (submit_of id.caller) in
      let next = allowed.0 in
      let place : id.number - 1 ≡ length at.first = omega arith in record {
        numbered = record {
          from = low;
          counted = omega arith;
          receipt = at.receipt;
          there = ap (slice_get (receipts_at lists id.caller)) place ∙ at.there;
          number = ap (λ (x : LoggedEvent). number_of x.note) at.is ∙ ap number_of event;
        };
        plan = sym (ap (λ (x : LoggedEvent). x.payload.plan) at.is);
      }

  entries : (before rest : List LoggedEvent) → log ≡ before ++ rest → All (EntryHasReceipt lists) (plans_in rest)
  entries before [] is = All-nil (EntryHasReceipt lists)
  entries before (n ∷ rest) is = by n.note refl (entries (before ++ n ∷ []) rest (is ∙ sym (append_assoc before (n ∷ []) rest)))
    where
      by : (written : Note) → n.note ≡ written → All (EntryHasReceipt lists) (plans_in rest) → All (EntryHasReceipt lists) (cons_option (option_map (λ (id : Id). (id, n.payload.plan)) (accepted_of written)) (plans_in rest))
      by (note.Event (Submit id Core)) at later = All-cons (EntryHasReceipt lists) (id, n.payload.plan) (plans_in rest) (one_entry before rest n id Core is at) later
      by (note.Event (Submit id Queued)) at later = All-cons (EntryHasReceipt lists) (id, n.payload.plan) (plans_in rest) (one_entry before rest n id Queued is at) later
      by (note.Event (Submit id Extra)) at later = All-cons (EntryHasReceipt lists) (id, n.payload.plan) (plans_in rest) (one_entry before rest n id Extra is at) later
      by _ at later = later

-- so each result is of the plan on its receipt
rows_have : (lists : List (List Receipt)) (jobs : List Accepted) (rows : List Row) → AreResultsOf jobs rows → All (EntryHasReceipt lists) (map plan_entry jobs) → All (HasReceipt lists) rows
rows_have lists [] [] h all = All-nil (HasReceipt lists)
rows_have lists (job ∷ jobs) (row ∷ rows) h all =
    let e = All-head (EntryHasReceipt lists) (plan_entry job) (map plan_entry jobs) all in
    let here : EntryHasReceipt lists (row.id, Some job.plan) = subst (λ (id : Id). EntryHasReceipt lists (id, Some job.plan)) (sym h.0.id) e in
    All-cons (HasReceipt lists) row rows (record { numbered = here.numbered; plan = h.0.plan ∙ same_Some job.plan here.numbered.receipt.plan here.plan })
    (rows_have lists jobs rows h.1 (All-tail (EntryHasReceipt lists) (plan_entry job) (map plan_entry jobs) all))
rows_have lists _ _ h all = absurd h

-- runs that are kept change no plan
runs_entries : (jobs : List Accepted) (made : List Row) → map plan_entry (with_runs jobs made) ≡ map plan_entry jobs
runs_entries jobs [] = refl
runs_entries jobs (row ∷ made) = runs_entries (with_runs jobs (row ∷ [])) made ∙ filed-with_run jobs row.id row.run

-- what the closer had seen when it gathered the receipts agrees with them, and so do the results of what was run then
pub agreed : (limits : Sizes) (count : ℕ) (callers : List CallerView) (log : List LoggedEvent) (lists : List (List Receipt)) (old new : MachineView) (made rows : List Row)
    → length lists ≡ count → IsGathered callers log lists → IsLegal limits (events_in log) → AllNameCallers count (events_in log) → MatchesLog limits log old
    → KeepsNames count old new → ((caller : ℕ) → submissions new.history caller ≡ submissions old.history caller) → new.jobs ≡ with_runs old.jobs made
    → AreResultsOf new.jobs rows → AgreeWithReceipts count new.history rows lists
agreed limits count callers log lists old new made rows many gathered legal names home kept same jobs results = record {
  submissions = still_submissions log old.history new.history lists gathered.submissions home.history same;
  no_others = kept (subst (AllNameCallers count) (sym home.history) names);
  results = rows_have lists new.jobs rows results
      (subst (All (EntryHasReceipt lists)) (sym (ap (map plan_entry) jobs ∙ (runs_entries old.jobs made ∙ home.plans))) (entries limits count log lists many gathered.logged legal names [] log refl));
}
