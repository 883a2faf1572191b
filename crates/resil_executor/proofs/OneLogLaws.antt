-- What holds of any lock between any two steps, for a pool: one log, which consists of what the seats wrote.
use Rattle.std.proofs.Common.{◌≡◌, ◌≤◌, ◌⊎◌, ◌+◌, inl, inr, ℕ, zero, suc, Bool, true, false, List, [], ◌∷◌, Option, refl, sym, ap, subst, ⊎_elim, arith}
use Rattle.std.specs.Prelude.{filter_map}
use mathlib.Core.Option as m
use Rattle.resil_executor.specs.Words.{Sizes, IsLegal, RuleView, times, is_among, running, finished, Id, View, weigh, total, is_there, IsSeatAt, HoldsBetweenSteps}
use Rattle.resil_rule.proofs.TimesLaws.{somewhere, among-some}
use Rattle.resil_rule.proofs.RunningLaws.{running-within_workers}
use Rattle.resil_rule.proofs.WorkerLaws.{workers-within_opening}
use Rattle.resil_lock.specs.declared.protocol.Rank.TheVariants as rank
use Rattle.resil_executor.specs.Log.{Entry, StandsFor, MayHaveWritten, picked_id, ended_id, events_in, picked_in, ended_in}
use Rattle.resil_executor.specs.Laws.{HoldsOfTheLog, IsRunBySeat}
use Rattle.resil_lock.proofs.LogLaws.{count, weigh-count, ended-is}
use Rattle.resil_executor.proofs.HistoryLaws.{once-done}

-- the sum of a number over all seats
module _ {K E : Type 0} (f : View K E → ℕ) where
  within-total : (views : List (View K E)) (index : ℕ) (v : View K E) → IsSeatAt views index v → f v ≤ total f views
  within-total [] index v at = absurd (m.some-ne-none v (sym at))
  within-total (u ∷ views) zero v at = let same = ap f (m.some-injective u v at) in omega (arith, same)
  within-total (u ∷ views) (suc index) v at = let rest = within-total views index v at in omega (arith, rest)

  one-of : (views : List (View K E)) → total f views ≤ 1 → (index other : ℕ) (v u : View K E) → IsSeatAt views index v → IsSeatAt views other u → 1 ≤ f v → 1 ≤ f u → index ≡ other
  one-of [] few index other v u at at' some some' = absurd (m.some-ne-none v (sym at))
  one-of (w ∷ views) few zero zero v u at at' some some' = refl
  one-of (w ∷ views) few zero (suc other) v u at at' some some' =
      let here = ap f (m.some-injective w v at) in let there = within-total views other u at' in absurd (omega (arith, few, here, there, some, some'))
  one-of (w ∷ views) few (suc index) zero v u at at' some some' =
      let here = ap f (m.some-injective w u at') in let there = within-total views index v at in absurd (omega (arith, few, here, there, some, some'))
  one-of (w ∷ views) few (suc index) (suc other) v u at at' some some' = ap suc (one-of views (omega (arith, few)) index other v u at at' some some')

  -- if the sum isn't 0, some seat's number isn't
  abbrev HasSome : List (View K E) → Type 0
  HasSome views = (index : ℕ) × (v : View K E) × IsSeatAt views index v × (1 ≤ f v)

  some-of : (views : List (View K E)) → 1 ≤ total f views → HasSome views
  some-of [] some = absurd (omega arith)
  some-of (u ∷ views) some = here (some-of views) (f u) refl
    where
      here : (1 ≤ total f views → HasSome views) → (n : ℕ) → f u ≡ n → HasSome (u ∷ views)
      here later zero none = let rest = later (omega (arith, some, none)) in (suc rest.0, rest.1, rest.2, rest.3)
      here later (suc n) is = (0, u, refl, omega (arith, is))

either-some : (a b : ℕ) → 1 ≤ a + b → (1 ≤ a) ⊎ (1 ≤ b)
either-some zero b some = inr (omega (arith, some))
either-some (suc a) b some = inl (omega arith)

module _ {W : Type 0} where
  -- the log has a job as often as the seats wrote it
  times-total : {K : Type 0} (f : Entry W → Option Id) (id : Id) (log : List (Entry W)) (views gone : List (View K (Entry W)))
      → total (λ v. weigh (count f id) v.own) views + total (λ v. weigh (count f id) v.own) gone ≡ weigh (count f id) log
      → total (λ v. times id (filter_map f v.own)) views + total (λ v. times id (filter_map f v.own)) gone ≡ times id (filter_map f log)
  times-total {K} f id log views gone wrote =
      let same : (λ (v : View K (Entry W)). weigh (count f id) v.own) ≡ (λ v. times id (filter_map f v.own)) = λ i v. weigh-count f id v.own i in
      let there = ap (λ (g : View K (Entry W) → ℕ). total g views) same in
      let away = ap (λ (g : View K (Entry W) → ℕ). total g gone) same in
      let all = weigh-count f id log in
      omega (arith, there, away, all, wrote)

  -- no job is picked twice
  pub picked-once : (limits : Sizes) (log : List (Entry W)) (v : RuleView W) → StandsFor limits log v → (id : Id) → times id (picked_in log) ≤ 1
  picked-once limits log v s id =
      let outs = s.outs id in
      let runs = s.state.runs id in
      let same = ap (times id) (ended-is log) in
      let one = once-done _ (events_in log) s.state.legal id in
      omega (arith, outs, runs, same, one)

  -- the seat that ended a job is a worker's, and picked it
  worker-ended : {K : Type 0} (v : View K (Entry W)) (id : Id) → MayHaveWritten v.rank v.own → 1 ≤ times id (ended_in v.own) → (v.rank ≡ rank.Worker) × (is_among id (picked_in v.own) ≡ true) × (is_among id (ended_in v.own) ≡ true)
  worker-ended v id fits ended =
      let picked : 1 ≤ times id (picked_in v.own) = let b = fits.balanced id in omega (arith, b, ended) in (
        ⊎_elim (λ is. is) (λ none. let zero_times = ap (times id) none in absurd (omega (arith, zero_times, picked))) fits.workers,
        among-some id (picked_in v.own) picked,
        among-some id (ended_in v.own) ended,
      )

  module _ {K S : Type 0} (limits_of : K → Sizes) (rule_of : S → RuleView W) (Home : K → List (Entry W) → S → Type 0) (stands : (key : K) (log : List (Entry W)) (s : S) → Home key log s → StandsFor (limits_of key) log (rule_of s))
      (is_own : ℕ → Entry W → Bool) (key : K) (words : List ℕ) (homes : List (m.Option (Option S))) (views : List (View K (Entry W))) (k : HoldsBetweenSteps Home MayHaveWritten is_own key words homes views) where
    stood : StandsFor (limits_of key) k.log (rule_of k.stood.0)
    stood = stands key k.log k.stood.0 k.stood.1

    legal : IsLegal (limits_of key) (events_in k.log)
    legal = subst (λ (x : Sizes). IsLegal x (events_in k.log)) stood.limits_are stood.state.legal

    picks : (id : Id) → total (λ v. times id (picked_in v.own)) views + total (λ v. times id (picked_in v.own)) k.gone ≡ times id (picked_in k.log)
    picks id = times-total (λ (e : Entry W). picked_id e.note) id k.log views k.gone (k.wrote (count (λ (e : Entry W). picked_id e.note) id))

    ends : (id : Id) → total (λ v. times id (ended_in v.own)) views + total (λ v. times id (ended_in v.own)) k.gone ≡ times id (ended_in k.log)
    ends id = times-total (λ (e : Entry W). ended_id e.note) id k.log views k.gone (k.wrote (count (λ (e : Entry W). ended_id e.note) id))

    once : (id : Id) → times id (picked_in k.log) ≤ 1
    once = picked-once (limits_of key) k.log (rule_of k.stood.0) stood

    fits-ended : (index : ℕ) (v : View K (Entry W)) (id : Id) → IsSeatAt views index v → 1 ≤ times id (ended_in v.own) → MayHaveWritten v.rank v.own
    fits-ended index v id at ended = go (is_there v.phase) refl
      where
        go : (b : Bool) → is_there v.phase ≡ b → MayHaveWritten v.rank v.own
        go true is = k.fits index v at is
        go false is = let none = ap (λ (own : List (Entry W)). times id (ended_in own)) (k.spent index v at is) in absurd (omega (arith, none, ended))

    all-run : (id : Id) → is_among id (finished (events_in k.log)) ≡ true → IsRunBySeat views k.gone id
    all-run id done =
        let all = ends id in
        let same = ap (times id) (ended-is k.log) in
        let some = somewhere id (finished (events_in k.log)) done in
        ⊎_elim
        (λ here.
        let s = some-of (λ v. times id (ended_in v.own)) views here in
        let w = worker-ended s.1 id (fits-ended s.0 s.1 id s.2 s.3) s.3 in
        record { index = s.0; seat = s.1; among = inl s.2; works = w.0; picked = w.1; ended = w.2 })
        (λ away.
        let s = some-of (λ v. times id (ended_in v.own)) k.gone away in
        let w = worker-ended s.1 id (k.gone_fits s.0 s.1 s.2) s.3 in
        record { index = s.0; seat = s.1; among = inr s.2; works = w.0; picked = w.1; ended = w.2 })
        (either-some (total (λ v. times id (ended_in v.own)) views) (total (λ v. times id (ended_in v.own)) k.gone) (omega (arith, all, same, some)))

    pub one-log : HoldsOfTheLog (limits_of key) views
    one-log = record {
      log = k.log;
      gone = k.gone;
      legal = legal;
      begins = k.longest.prefixes;
      fits = k.fits;
      gone_fits = k.gone_fits;
      picks = picks;
      ends = ends;
      at_once = λ sizes.
          let few = running-within_workers (limits_of key) (events_in k.log) legal in
          let most = workers-within_opening (limits_of key) (events_in k.log) sizes.max.0 legal in
          omega (arith, few, most);
      out_runs = λ id due. among-some id (running (events_in k.log)) (let outs = stood.outs id in let runs = stood.state.runs id in omega (arith, outs, runs, due));
      once = once;
      ended_few = λ id. let outs = stood.outs id in omega (arith, outs);
      finishes = ended-is k.log;
      one_seat = λ id index other v u at at' picked picked'.
          let all = picks id in
          let few = once id in
          one-of (λ v. times id (picked_in v.own)) views (omega (arith, all, few)) index other v u at at' (somewhere id (picked_in v.own) picked) (somewhere id (picked_in u.own) picked');
      all_run = all-run;
    }
