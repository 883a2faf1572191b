-- Each kind of step on the permit word keeps the rule, and shows what it says.
use Rattle.std.proofs.Common.{◌≡◌, ◌≢◌, ℕ, ◌+◌, ◌-◌, ◌%◌, ◌^◌, ◌<◌, ◌≤◌, eqb, true, List, [], ◌∷◌, ◌++◌, length, get_or, refl, sym, ap, ◌∙◌, subst, arith, eq-eqb, ne_eqb}
use mathlib.Core.Option.{none, some}
use mathlib.Core.Logic.{dite}
use native.Mathlib.Decide.{ℕ_discrete}
use lib.ListN.{get_elem?}
use prog.Atomic.{either}
use Rattle.atomic_table.specs.Table.{step, keeps, stepped, Allows, Enters, Splits, Joins, opening}
use Rattle.atomic_table.proofs.Lists.{set_else}
use Rattle.resil_permit.specs.declared.event.PermitEvent.{PermitEvent}
use Rattle.resil_permit.specs.declared.event.PermitEvent.TheVariants.{Took, Gave, Refused, Retired, Raised}
use Rattle.resil_permit.specs.declared.protocol.Phase.{Phase}
use Rattle.resil_permit.specs.declared.protocol.Phase.TheVariants.{Idle, Loaded, Joining, Splitting}
use Rattle.resil_permit.specs.declared.protocol.View.{View}
use Rattle.resil_permit.specs.declared.step.Step.TheVariants.{Load, Exchange, Add, Retire, Raise}
use Rattle.resil_permit.specs.declared.step.Shown.TheVariants as show
use Rattle.resil_permit.specs.declared.word_machine.CallerState.TheVariants as caller
use Rattle.resil_permit.specs.WordMachine.{Machine, CanMake, CanMakeAll, after_step, after_steps}
use Rattle.resil_permit.specs.declared.step.Step.{Step}
use Rattle.resil_permit.specs.RunningWord.{Table, state_of, state_at, machine_of}
use Rattle.resil_permit.specs.History.{seat_of, is_event_of, taken_count, retired_count, raised_count, let_go_count, holders_after, holders, in_use_count, free_count, IsAllowed, IsLegal}
use Rattle.resil_permit.specs.Rule.{view_of, IsLive, IsSplitting, FitsPassPhase, Fits, Rule, first_pass_view, splitting_view, joining_pass_view, joined_view}
use Rattle.resil_permit.specs.Steps.{PassSeat, AfterPlainLoad, AfterAcquireLoad, AfterAcquireExchange, AfterAdd, AfterNumberSeat, AfterNewPass, AfterPassJoin, BeginsWithBothPasses}
use Rattle.resil_permit.proofs.Machines.{shown_refused, shown_loaded, shown_took, shown_lost, after_shown-is}
use Rattle.resil_permit.proofs.RunningMachines.{stands_still, stands_moved}
use Rattle.resil_permit.proofs.Histories.{IsLegal-push}
use Rattle.resil_permit.proofs.Tallies.{one_more, tallied}
use Rattle.resil_permit.proofs.Log.Prefixes.{prefix_self, filter_none}
use Rattle.resil_permit.proofs.Log.Places.{place_within}
use Rattle.resil_permit.proofs.Log.Seats.{live_whole, live_joined, sees_more, sees_whole, sees_own, seen_still, log_opens, log_enters, log_splits, log_joins}
use Rattle.resil_permit.proofs.ProtocolRules.{live_at, counts_of_live, same, moved, added, looked_on}

unfoldable pub opens : (max : ℕ) → max ≤ 65535 → Rule max (opening (max ∷ []) [] (first_pass_view max))
opens max few = record { log = []; few = few; one_word = refl; counts = omega arith; shared = log_opens (Fits max []) (first_pass_view max) refl tt (live_whole [] refl refl) }

-- The step of the pass at this index, which leaves this word, keeps the rule and shows this. The machine that the table represented can
-- make these steps, and after them it is the one that the table represents
abbrev pub Goes : (max : ℕ) (s : Table) → Rule max s → ℕ → PassSeat → ℕ → (PassSeat → Type 0) → List Step → Type 0
Goes max s k id me left Told next =
    CanMakeAll (machine_of k.log s) next × (w : View) × (after : Rule max (stepped s 0 left id me.1 w keeps)) × Told (w, me.1) × (machine_of after.log (stepped s 0 left id me.1 w keeps) ≡ after_steps (machine_of k.log s) next)

-- wherever the table stands, the step of this pass goes so
pub record Advances (max id : ℕ) (me : PassSeat) (left : ℕ → ℕ) (Then : ℕ → PassSeat → Type 0) (next : List Step) : Type 0 where
  pub goes : (s : Table) (k : Rule max s) → get_elem? s.views id ≡ some me.0 → Goes max s k id me (left (get_or s.words 0 0)) (Then (get_or s.words 0 0)) next

-- the table allows such a step
pub allows : {max id : ℕ} {me : PassSeat} {left : ℕ → ℕ} {Then : ℕ → PassSeat → Type 0} {next : List Step} (slots : ℕ) → Advances max id me left Then next → Allows (Rule max) slots id me 0 left Then
allows slots advances s k _ at small = let g = advances.goes s k at in (g.1, keeps, tt, g.2, g.3)

-- a load after which the pass is idle as before, and has seen all
seeing : (max id : ℕ) (me : PassSeat) (Then : ℕ → PassSeat → Type 0) → state_of me.0.phase ≡ caller.Idle
    → ((s : Table) (k : Rule max s) → get_elem? s.views id ≡ some me.0 → Then (get_or s.words 0 0) (view_of id max k.log Idle, me.1)) → Advances max id me (λ n. n) Then []
unfolding looked_on moved
seeing max id me Then still tells = record {
  goes = λ s k at.
      let n : ℕ = get_or s.words 0 0 in
      let w = view_of id max k.log Idle in (
        tt,
        w,
        looked_on max n id s.words s.views k me.0 at Idle refl (λ l. l),
        tells s k at,
        stands_still s id me.0 w at k.one_word n n refl me.1 k.log (sym still),
      );
}

pub looking : (max slots id : ℕ) (me : PassSeat) → me.0.phase ≡ Idle → Advances max id me (λ n. n) (AfterPlainLoad (step slots 0 0 0 none) me) []
looking max slots id me idle = seeing max id me (AfterPlainLoad (step slots 0 0 0 none) me) (ap state_of idle)
    (λ s k at.
    let live = live_at max s.words s.views k id me.0 at idle in
    record { same = same max id k.log me live k.log Idle; idle = refl; seen = sees_whole IsLegal live k.shared.legal; free = k.counts ∙ ap (λ (y : ℕ). in_use_count y k.log) (sym live.keyed) })

pub ending_join : (max slots id : ℕ) (me : PassSeat) (number : ℕ) (mine other : List PermitEvent) → me.0.phase ≡ Joining number mine other
    → Advances max id me (λ n. n) (AfterPassJoin (step slots 0 0 0 none) me) []
ending_join max slots id me number mine other joining = seeing max id me (AfterPassJoin (step slots 0 0 0 none) me) (ap state_of joining)
    (λ s k at.
    let fits : FitsPassPhase max k.log id me.0 (Joining number mine other) = subst (FitsPassPhase max k.log id me.0) joining (k.shared.each id me.0 at) in
    record {
      same = same max id k.log me fits.live k.log Idle;
      idle = refl;
      both = subst (λ (p : Phase). BeginsWithBothPasses me.0.max me.0.number p k.log) (sym joining)
          ((sees_more IsLegal fits.live mine k.shared.legal fits.begins fits.all_own, fits.other_begins), fits.apart);
    })

-- the caller of a pass in the machine is in the state of the pass
stood : (s : Table) (id : ℕ) (v : View) (p : Phase) → get_elem? s.views id ≡ some v → v.phase ≡ p → state_at (get_elem? s.views id) ≡ state_of p
stood s id v p at is = ap state_at at ∙ ap state_of is

pub loading : (max slots id : ℕ) (me : PassSeat) → me.0.phase ≡ Idle → Advances max id me (λ n. n) (AfterAcquireLoad (step slots 0 0 0 none) me) (Load id ∷ [])
unfolding added moved looked_on
loading max slots id me idle = record {
  goes = λ s k at.
      let live = live_at max s.words s.views k id me.0 at idle in
      let n : ℕ = get_or s.words 0 0 in
      let m = machine_of k.log s in
      let can = stood s id me.0 Idle at idle in
      dite (ℕ_discrete n 0)
      (λ zero.
      let full : length (holders k.log) ≡ in_use_count max k.log = omega arith in
      let now = k.log ++ Refused id ∷ [] in
      let w = view_of id max now Idle in (
        (can, tt),
        w,
        added max n id s.words s.views k me.0 at (Refused id) refl full (omega (arith, one_more)),
        record {
          same = same max id k.log me live now Idle;
          refused = λ _. (refl, sees_own IsLegal live (λ i. Refused i) (λ limit before. length (holders before) ≡ in_use_count limit before) (eq-eqb id id refl) (IsLegal-push max k.log (Refused id) k.shared.legal full) full);
          loaded = λ more. absurd (more zero);
        },
        after_shown-is (λ after. machine_of now (stepped s 0 n id me.1 w keeps) ≡ after) m (Load id) show.Refused (shown_refused m id zero)
            (stands_still s id me.0 w at k.one_word n n refl me.1 now (ap state_of (sym idle))),
      ))
      (λ more.
      let w = view_of id max k.log (Loaded n) in (
        (can, tt),
        w,
        looked_on max n id s.words s.views k me.0 at (Loaded n) refl (λ l. record { live = l; some = omega arith; free = k.counts }),
        record {
          same = same max id k.log me live k.log (Loaded n);
          refused = λ zero. absurd (more zero);
          loaded = λ _. (refl, sees_whole IsLegal live k.shared.legal);
        },
        after_shown-is (λ after. machine_of k.log (stepped s 0 n id me.1 w keeps) ≡ after) m (Load id) show.Loaded (shown_loaded m id more)
            (stands_moved s id me.0 w at k.one_word n n refl me.1 k.log (caller.Loaded n) refl),
      ));
}

pub exchanging : (max slots id : ℕ) (me : PassSeat) (old new : ℕ) → me.0.phase ≡ Loaded old → new + 1 ≡ old
    → Advances max id me (λ n. either (eqb n old) new n) (AfterAcquireExchange (step slots 0 old new none) me) (Exchange id ∷ [])
unfolding added moved looked_on
exchanging max slots id me old new loaded less = record {
  goes = λ s k at.
      let fits : FitsPassPhase max k.log id me.0 (Loaded old) = subst (FitsPassPhase max k.log id me.0) loaded (k.shared.each id me.0 at) in
      let live = fits.live in
      let n : ℕ = get_or s.words 0 0 in
      let m = machine_of k.log s in
      let at_old = stood s id me.0 (Loaded old) at loaded in
      let becomes : ℕ → Type 0 = λ left. Goes max s k id me left (AfterAcquireExchange (step slots 0 old new none) me n) (Exchange id ∷ []) in
      dite (ℕ_discrete n old)
      (λ hit.
      let room : length (holders k.log) < in_use_count max k.log = omega arith in
      let fewer : new ≡ n - 1 = omega arith in
      let now = k.log ++ Took id ∷ [] in
      let w = view_of id max now Idle in
      subst (λ b. becomes (either b new n)) (sym (eq-eqb n old hit)) (
        ((old, at_old), tt),
        w,
        added max new id s.words s.views k me.0 at (Took id) refl room (omega (arith, one_more)),
        record {
          same = same max id k.log me live now Idle;
          idle = refl;
          took = λ _. sees_own IsLegal live (λ i. Took i) (λ limit before. length (holders before) < in_use_count limit before) (eq-eqb id id refl) (IsLegal-push max k.log (Took id) k.shared.legal room) room;
          lost = λ miss. absurd (miss hit);
        },
        after_shown-is (λ after. machine_of now (stepped s 0 new id me.1 w keeps) ≡ after) m (Exchange id) show.Took (shown_took m id old at_old hit)
            (stands_moved s id me.0 w at k.one_word new (n - 1) fewer me.1 now caller.Idle refl),
      ))
      (λ miss.
      let w = view_of id max k.log Idle in
      subst (λ b. becomes (either b new n)) (sym (ne_eqb n old miss)) (
        ((old, at_old), tt),
        w,
        looked_on max n id s.words s.views k me.0 at Idle refl (λ l. l),
        record {
          same = same max id k.log me live k.log Idle;
          idle = refl;
          took = λ hit. absurd (miss hit);
          lost = λ _. (sees_whole IsLegal live k.shared.legal, subst (λ (y : ℕ). free_count y k.log ≢ free_count y me.0.seen) (sym live.keyed) (λ is. miss (omega arith)));
        },
        after_shown-is (λ after. machine_of k.log (stepped s 0 n id me.1 w keeps) ≡ after) m (Exchange id) show.Lost (shown_lost m id old at_old miss)
            (stands_moved s id me.0 w at k.one_word n n refl me.1 k.log caller.Idle refl),
      ));
}

-- an add by which an idle pass writes an event of its own, and which leaves the word at `after` of it: a step of the machine that does the same
writing : (max slots more id : ℕ) (me : PassSeat) → me.0.phase ≡ Idle → (event : ℕ → PermitEvent) → seat_of (event id) ≡ id → is_event_of id (event id) ≡ true → (next : Step) (after : ℕ → ℕ)
    → ((m : Machine) → after_step m next ≡ record { word = after m.word; callers = m.callers; events = m.events ++ event id ∷ [] })
    → ((s : Table) (k : Rule max s) → IsLive max k.log id me.0 → state_at (get_elem? s.views id) ≡ caller.Idle
    → CanMake (machine_of k.log s) next × IsAllowed max k.log (event id) × ((get_or s.words 0 0 + more) % 2 ^ 64 ≡ after (get_or s.words 0 0))
    × (after (get_or s.words 0 0) + length (holders_after (holders k.log) (event id)) ≡ in_use_count max (k.log ++ event id ∷ [])))
    → Advances max id me (λ n. (n + more) % 2 ^ 64) (AfterAdd event (step slots 0 more 0 none) me) (next ∷ [])
unfolding added moved
writing max slots more id me idle event is own next after does may = record {
  goes = λ s k at.
      let live = live_at max s.words s.views k id me.0 at idle in
      let n : ℕ = get_or s.words 0 0 in
      let left : ℕ = (n + more) % 2 ^ 64 in
      let now = k.log ++ event id ∷ [] in
      let w = view_of id max now Idle in
      let can = may s k live (stood s id me.0 Idle at idle) in (
        (can.0, tt),
        w,
        added max left id s.words s.views k me.0 at (event id) is can.1 (ap (λ (y : ℕ). y + length (holders_after (holders k.log) (event id))) can.2 ∙ can.3),
        record {
          same = same max id k.log me live now Idle;
          idle = refl;
          own = sees_own IsLegal live event (λ _ _. Unit {0}) own (IsLegal-push max k.log (event id) k.shared.legal can.1) tt;
        },
        stands_still s id me.0 w at k.one_word left (after n) can.2 me.1 now (ap state_of (sym idle)) ∙ sym (does (machine_of k.log s)),
      );
}

pub giving : (max slots id : ℕ) (me : PassSeat) → me.0.phase ≡ Idle → let_go_count me.0.number me.0.seen < taken_count me.0.number me.0.seen
    → Advances max id me (λ n. (n + 1) % 2 ^ 64) (AfterAdd Gave (step slots 0 1 0 none) me) (Add id ∷ [])
giving max slots id me idle holds = writing max slots 1 id me idle Gave refl (eq-eqb id id refl) (Add id) (λ n. n + 1) (λ m. refl)
    (λ s k live stands.
    let mine = counts_of_live max id k.log me.0 live in
    let all = tallied max k.log k.shared.legal in ((stands, omega arith), omega arith, omega arith, omega (arith, one_more)))

pub retiring : (max slots id : ℕ) (me : PassSeat) → me.0.phase ≡ Idle → let_go_count me.0.number me.0.seen < taken_count me.0.number me.0.seen
    → Advances max id me (λ n. (n + 0) % 2 ^ 64) (AfterAdd Retired (step slots 0 0 0 none) me) (Retire id ∷ [])
retiring max slots id me idle holds = writing max slots 0 id me idle Retired refl (eq-eqb id id refl) (Retire id) (λ n. n) (λ m. refl)
    (λ s k live stands.
    let mine = counts_of_live max id k.log me.0 live in
    let all = tallied max k.log k.shared.legal in ((stands, omega arith), omega arith, omega arith, omega (arith, one_more)))

pub raising : (max slots id : ℕ) (me : PassSeat) → me.0.phase ≡ Idle → raised_count me.0.number me.0.seen < retired_count me.0.number me.0.seen
    → Advances max id me (λ n. (n + 1) % 2 ^ 64) (AfterAdd Raised (step slots 0 1 0 none) me) (Raise id ∷ [])
raising max slots id me idle has = writing max slots 1 id me idle Raised refl (eq-eqb id id refl) (Raise id) (λ n. n + 1) (λ m. refl)
    (λ s k live stands.
    let mine = counts_of_live max id k.log me.0 live in
    let all = tallied max k.log k.shared.legal in ((stands, omega arith), omega arith, omega arith, omega (arith, one_more)))

pub numbering : (max slots id : ℕ) (me : PassSeat) → me.0.phase ≡ Splitting → Advances max id me (λ n. n) (AfterNumberSeat (step slots 0 0 0 none) me) []
unfolding moved
numbering max slots id me new = record {
  goes = λ s k at.
      let fits : FitsPassPhase max k.log id me.0 Splitting = subst (FitsPassPhase max k.log id me.0) new (k.shared.each id me.0 at) in
      let n : ℕ = get_or s.words 0 0 in
      let w = view_of id max me.0.seen Idle in
      let empty = filter_none (is_event_of id) me.0.seen k.log fits.begins fits.no_events in (
        tt,
        w,
        moved max n id s.words s.views k me.0 at w k.log (prefix_self k.log) k.shared.legal k.counts (λ j apart. refl)
            (record { numbered = refl; keyed = refl; begins = fits.begins; all_own = empty ∙ sym fits.no_events })
            (seen_still s.views id me.0 w at refl k.shared.longest),
        record { slots = refl; idle = refl; number = λ e. fits.unnumbered (sym e); max = sym fits.bounded; seen = refl; no_events = empty },
        stands_still s id me.0 w at k.one_word n n refl me.1 k.log (ap state_of (sym new)),
      );
}

unfoldable pub splits : (max id : ℕ) (v : View) → v.phase ≡ Idle → Splits (Rule max) id v v (splitting_view v)
splits max id v idle s k at =
    let live = live_at max s.words s.views k id v at idle in
    let inside = place_within s.views id v at in
    let last : IsSplitting max k.log (length s.views) (splitting_view v) = record {
      unnumbered = λ same. absurd (omega (arith, same));
      bounded = live.keyed;
      begins = live.begins;
      no_events = k.shared.no_others (length s.views) (omega arith);
    } in
    record { log = k.log; few = k.few; one_word = k.one_word; counts = k.counts; shared = log_splits k.shared id v v (splitting_view v) at refl (k.shared.each id v at) last }

unfoldable pub joins : (max id : ℕ) (v : View) (other : ℕ) (u : View) → v.phase ≡ Idle → u.phase ≡ Idle → taken_count u.number u.seen ≡ let_go_count u.number u.seen → retired_count u.number u.seen ≡ raised_count u.number u.seen
    → Joins (Rule max) id v other u (joining_pass_view v u) joined_view
joins max id v other u idle idle' even clear s k at apart there =
    let both = joining_pass_view v u in
    let there' : get_elem? s.views other ≡ some u = sym (set_else s.views id other both apart) ∙ there in
    let live = live_at max s.words s.views k id v at idle in
    let live' = live_at max s.words s.views k other u there' idle' in
    let theirs = counts_of_live max other k.log u live' in
    record {
      log = k.log;
      few = k.few;
      one_word = k.one_word;
      counts = k.counts;
      shared = log_joins k.shared id other v u both joined_view at there' apart live.begins live'.begins refl (record {
        live = live_joined live u.seen live'.begins;
        begins = live.begins;
        other_begins = live'.begins;
        all_own = live.all_own;
        apart = λ same. apart (sym live'.numbered ∙ (same ∙ live.numbered));
      }) (record { nothing_seen = refl; even = omega arith; none_retired = omega arith });
    }

-- a pass that comes in has seen the whole log, and no event of the log is its own
unfoldable pub entering : (max slots : ℕ) (s : Table) → Rule max s
    → (w : View) × Rule max (record { words = s.words; homes = s.homes; views = s.views ++ w ∷ [] }) × AfterNewPass (step slots 0 0 0 none) (first_pass_view max, []) (get_or s.words 0 0) (w, [])
entering max slots s k =
    let place = length s.views in
    let w = view_of place max k.log Idle in (
      w,
      record { log = k.log; few = k.few; one_word = k.one_word; counts = k.counts; shared = log_enters k.shared w (live_whole k.log refl refl) },
      record { slots = refl; idle = refl; max = refl; few = k.few; legal = k.shared.legal; free = k.counts; no_events = k.shared.no_others place (omega arith) },
    )

pub enters : (max slots : ℕ) → Enters (Rule max) slots 0 (λ n w. AfterNewPass (step slots 0 0 0 none) (first_pass_view max, []) n (w, []))
enters max slots s k _ small = entering max slots s k
