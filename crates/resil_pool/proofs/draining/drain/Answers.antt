-- The history begins with what the closer had seen when it held the turn and the callers were joined into it, and what was left was run with the permitter.
use Rattle.std.proofs.Common.{◌≡◌, ℕ, true, false, map, refl, sym, ap, ◌∙◌, subst, rules}
use Rattle.std.specs.Prelude.{◌↔◌, All}
use Rattle.resil_pool.specs.Words.{IsPrefix, is_closed, AllDone}
use Rattle.resil_pool.specs.Lock.{AllNameCallers, NamesCaller, events_in, PoolId}
use Rattle.resil_pool.specs.Pool.{PoolView}
use Rattle.resil_pool.specs.Parts.{SeatView}
use Rattle.resil_pool.specs.Draining.{HasRefused, Ended, AreNumbered, IsDrainError, IsReceiptsDiffer, Differ}
use Rattle.resil_pool.proofs.ReceiptLaws.{none_held, stranger_causes, differ_causes}
use Rattle.resil_pool.proofs.JoinedCallers.{gathered_count, each_begins, events_begin, of_report, still_closed, still_submissions}
use Rattle.std.proofs.lemmas.List.{length-map}
use Rattle.std.proofs.lemmas.Result.{IfOk-weaker}
use Rattle.resil_pool.proofs.Agreement.{agreed}
use Rattle.resil_pool.proofs.TurnLaws.{has-turn, legal_there}
use Rattle.resil_pool.proofs.RemainingLaws.{ran_where_ok}
use Rattle.resil_permit.proofs.Log.Prefixes.{prefix_trans}
use Rattle.resil_pool.proofs.draining.drain.Goals as goal

pub run_remaining-requires : goal.run_remaining-requires
run_remaining-requires g c =
    let took = has-turn c.closer.inside.seat.me (c.into_inner-inner.ensures ∙ c.state.view_is) c.take-state.ensures in record { legal = legal_there took; few = took.few }

pub into_report-requires : goal.into_report-requires
into_report-requires g c =
    let all : AreNumbered c.pool.inside.callers c.args.callers.items = search rules in
    let many = gathered_count _ _ _ _ _ all c.join_callers-receipts.ensures.gathered in
    let took = has-turn c.closer.inside.seat.me (c.into_inner-inner.ensures ∙ c.state.view_is) c.take-state.ensures in
    let lists = length-map c.join_callers-receipts.result.items (λ own. own.items) in
    let ran = c.run_remaining.ensures.ran in
    let callers : c.closer.inside.seat.me.0.key.callers ≡ c.pool.inside.callers =
    ap (λ (k : SeatView). k.source.callers) c.closer.view_is ∙ (ap (λ (s : PoolId). s.callers) (c.close.ensures.source ∙ c.requires.closer) ∙ (sym (ap (λ (p : PoolView). p.source.callers) c.pool.view_is) ∙ c.pool.invariant.1)) in
    record { agree = λ rows results. agreed _ _ _ _ _ _ c.run_remaining.new.machine ran.0 rows lists c.join_callers-receipts.ensures.gathered took.home.legal (subst (λ (count : ℕ). AllNameCallers count (events_in c.take-state.new.seat.me.0.seen)) (callers ∙ sym many) took.home.names) took.home.home (c.run_remaining.ensures.ran_on.names _) c.run_remaining.ensures.ran_on.submissions ran.1.jobs results }

pub returns-clause-no_others : goal.returns-clause-no_others
returns-clause-no_others g c =
    let all : AreNumbered c.pool.inside.callers c.args.callers.items = search rules in
    let many = gathered_count _ _ _ _ _ all c.join_callers-receipts.ensures.gathered in
    let callers = ap (λ (p : PoolView). p.callers) c.pool.view_is in
    IfOk-weaker c.into_report.result _ _ (λ r named. subst (λ (count : ℕ). All (NamesCaller count) r.history.items) (many ∙ callers) named) c.into_report.ensures.no_others

pub returns-clause-begins : goal.returns-clause-begins
returns-clause-begins g c =
    let took = has-turn c.closer.inside.seat.me (c.into_inner-inner.ensures ∙ c.state.view_is) c.take-state.ensures in
    of_report (λ r. r.history.items) c.into_report.result (λ h. All (λ k. IsPrefix (events_in k.seen) h) c.args.callers.items)
    (each_begins _ _ _ _ c.join_callers-receipts.ensures.gathered.begins took.home.home.history c.run_remaining.ensures.ran_on.begins) c.into_report.ensures.history

pub returns-clause-begins_with_closers : goal.returns-clause-begins_with_closers
returns-clause-begins_with_closers g c =
    let took = has-turn c.closer.inside.seat.me (c.into_inner-inner.ensures ∙ c.state.view_is) c.take-state.ensures in
    let closing = subst (λ (k : SeatView). IsPrefix c.args.closer.seen k.seen) (sym c.closer.view_is) c.close.ensures.begins in
    of_report (λ r. r.history.items) c.into_report.result (λ h. IsPrefix (events_in c.args.closer.seen) h)
    (events_begin _ _ _ _ (prefix_trans _ _ _ closing took.begins) took.home.home.history c.run_remaining.ensures.ran_on.begins) c.into_report.ensures.history

pub returns-clause-closed : goal.returns-clause-closed
returns-clause-closed g c =
    let took = has-turn c.closer.inside.seat.me (c.into_inner-inner.ensures ∙ c.state.view_is) c.take-state.ensures in
    let shut = subst (λ (k : SeatView). is_closed (events_in k.seen) ≡ true) (sym c.closer.view_is) c.close.ensures.closed in
    of_report (λ r. r.history.items) c.into_report.result (λ h. is_closed h ≡ true)
    (still_closed _ _ (events_begin _ _ _ _ took.begins took.home.home.history c.run_remaining.ensures.ran_on.begins) shut) c.into_report.ensures.history

pub returns-clause-ran : goal.returns-clause-ran
returns-clause-ran g c =
    let ran = c.run_remaining.ensures.ran in
    ran_where_ok g.P.Permitter.AnsweredBetween _ _ _ _ ran.0 (λ r. r.history.items) (λ r. r.results.items) c.into_report.result ran.1 c.run_remaining.ensures.ran_on.begins c.into_report.ensures.history c.into_report.ensures.results

pub returns-clause-none_refused : goal.returns-clause-none_refused
returns-clause-none_refused g c _ =
    let all : AreNumbered c.pool.inside.callers c.args.callers.items = search rules in
    let many = gathered_count _ _ _ _ _ all c.join_callers-receipts.ensures.gathered in
    let took = has-turn c.closer.inside.seat.me (c.into_inner-inner.ensures ∙ c.state.view_is) c.take-state.ensures in
    let shut = subst (λ (k : SeatView). is_closed (events_in k.seen) ≡ true) (sym c.closer.view_is) c.close.ensures.closed in
    let closed = still_closed _ _ (events_begin _ _ _ _ took.begins took.home.home.history c.run_remaining.ensures.ran_on.begins) shut in
    let limits = c.run_remaining.ensures.ran_on.limits ∙ (took.home.home.sized ∙ (ap (λ (k : SeatView). k.source.limits) c.closer.view_is ∙ ap (λ (s : PoolId). s.limits) (c.close.ensures.source ∙ c.requires.closer))) in
    let inside = limits ∙ sym (ap (λ (p : PoolView). p.source.limits) c.pool.view_is) in
    let none : ¬ HasRefused c.args.ends.items = none_held c.args.ends.items in
    let callers : c.closer.inside.seat.me.0.key.callers ≡ c.pool.inside.callers =
    ap (λ (k : SeatView). k.source.callers) c.closer.view_is ∙ (ap (λ (s : PoolId). s.callers) (c.close.ensures.source ∙ c.requires.closer) ∙ (sym (ap (λ (p : PoolView). p.source.callers) c.pool.view_is) ∙ c.pool.invariant.1)) in
    let names = subst (λ (count : ℕ). AllNameCallers count (events_in c.take-state.new.seat.me.0.seen)) callers took.home.names in
    let lists = length-map c.join_callers-receipts.result.items (λ own. own.items) in
    let ran = c.run_remaining.ensures.ran in
    subst (λ (p : PoolView). (how : Ended p c.args.callers.items c.args.ends.items c.into_report.result) × (how.all_accepted ≡ true) × ¬ HasRefused c.args.ends.items) c.pool.view_is (
      record {
        machine = c.run_remaining.new.machine;
        receipts = _;
        all_accepted = true;
        limits = inside;
        closed = closed;
        none_left = λ _. c.run_remaining.ensures.none_left;
        refused = λ e. let no : true ≡ false = e in absurd (cc);
        handed_in = c.join_callers-receipts.ensures.gathered.told;
        begins = each_begins _ _ _ _ c.join_callers-receipts.ensures.gathered.begins took.home.home.history c.run_remaining.ensures.ran_on.begins;
        submissions = still_submissions c.take-state.new.seat.me.0.seen _ c.run_remaining.new.machine.history _ c.join_callers-receipts.ensures.gathered.submissions took.home.home.history c.run_remaining.ensures.ran_on.submissions;
        no_others = c.run_remaining.ensures.ran_on.names _ (subst (AllNameCallers c.pool.inside.callers) (sym took.home.home.history) names);
        agree = λ rows results. agreed _ _ _ _ _ _ c.run_remaining.new.machine ran.0 rows (lists ∙ many) c.join_callers-receipts.ensures.gathered took.home.legal names took.home.home (c.run_remaining.ensures.ran_on.names _) c.run_remaining.ensures.ran_on.submissions ran.1.jobs results;
        stranger = stranger_causes _ _ _ c.into_report.ensures.stranger none;
        receipts_differ = differ_causes _ _ _ _ (subst (λ (count : ℕ). IsDrainError IsReceiptsDiffer c.into_report.result ↔ (AllDone c.run_remaining.new.machine.jobs × Differ count c.run_remaining.new.machine (map (λ own. own.items) c.join_callers-receipts.result.items))) many c.into_report.ensures.receipts_differ) none;
      },
      refl,
      none,
    )

pub returns-clause-ended : goal.returns-clause-ended
returns-clause-ended g c all = (returns-clause-none_refused g c all).0
