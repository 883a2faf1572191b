-- Lemmas on logs, and what the lock's log shows a seat of the jobs that its own turns picked and ended.
use Rattle.std.proofs.Common.{◌≡◌, ◌+◌, ℕ, List, ◌++◌, ap, ◌∙◌, arith, ◌≤◌, ◌<◌, zero, suc, Bool, true, cond, [], ◌∷◌, take, drop, sym, subst, Some}
use Rattle.std.proofs.lemmas.List.Elements.{filter-append, filter_map-append}
use Rattle.std.specs.Prelude.{slice_get}
use Rattle.std.proofs.lemmas.List.{take-append-drop}
use Rattle.resil_rule.proofs.TimesLaws.{times-append, times-left, times-one, among-some}
use Rattle.resil_rule.proofs.IdLaws.{same_id-self, in_flight-running}
use Rattle.resil_rule.proofs.ConservationLaws.{accepted-parts, tracked}
use Rattle.resil_rule.proofs.EventLaws.{not-among}
use Rattle.resil_lock.specs.declared.protocol.Rank.{Rank}
use Rattle.resil_lock.proofs.LogLaws.{ended-is, covered-ends}
pub use Rattle.resil_lock.proofs.LogLaws.{events_in-append}
use Rattle.resil_lock.specs.Lock.{IsCovered, IsNumbering}
use Rattle.resil_pool.specs.Words.{taken, taken_id, finished, times, is_among, started, running, Id, IsLegal, Sizes, MachineView, jobs_in_flight, LoggedEvent, PoolOpening}
use Rattle.resil_pool.specs.Lock.{events_in, picked_in, ended_in, is_own, own_in, plans_in, logged_plan, IsMachineOf, MayHaveWritten, starts_of, EndsOnlyPicked, IsDue}

pub own_in-append : (c : ℕ) (xs ys : List LoggedEvent) → own_in c (xs ++ ys) ≡ own_in c xs ++ own_in c ys
own_in-append c xs ys = filter-append (is_own c) xs ys

pub plans_in-append : (xs ys : List LoggedEvent) → plans_in (xs ++ ys) ≡ plans_in xs ++ plans_in ys
plans_in-append xs ys = filter_map-append logged_plan xs ys

pub takes_in-append : (xs ys : List LoggedEvent) → taken (events_in (xs ++ ys)) ≡ taken (events_in xs) ++ taken (events_in ys)
takes_in-append xs ys = ap taken (events_in-append xs ys) ∙ filter_map-append taken_id (events_in xs) (events_in ys)

-- all seats of a pool have numbers
pub numbering : IsNumbering MayHaveWritten
numbering who own may = may.numbered

one : (id : Id) → times id (id ∷ []) ≡ 1
one id = times-one id id ∙ ap {B = ℕ} (λ (b : Bool). cond b 1 0) (same_id-self id)

-- a job that was picked more often than it was finished is out, since each is accepted once at most
pub due-out : (limits : Sizes) (m : MachineView) (id : Id) → IsLegal limits m.history → times id (finished m.history) + times id (id ∷ []) ≤ times id (starts_of m) + times id (taken m.history) → is_among id (jobs_in_flight m) ≡ true
due-out limits m id legal due =
    let h = m.history in
    let k = tracked limits h legal id in
    let parts = accepted-parts h id in
    let split : times id (starts_of m) + times id (drop m.picked (started h)) ≡ times id (started h) = sym (times-append id (starts_of m) (drop m.picked (started h))) ∙ ap (times id) (take-append-drop m.picked (started h)) in
    let none : times id (finished h) ≡ 0 = omega (arith, k.once, k.lined, parts, split, due, one id) in
    let left = rw (not-among id (finished h) none) at (times-left (finished h) (starts_of m) (taken h) id) in
    among-some id (jobs_in_flight m) (omega (arith, left, due, one id))

-- the jobs that a log has as ended are those of the machine that stands for it
module _ (opening : PoolOpening) (log : List LoggedEvent) (m : MachineView) (is : IsMachineOf opening log m) where
  ended-are : (id : Id) → times id (ended_in log) ≡ times id (finished m.history)
  ended-are id = ap (times id) (ended-is log) ∙ ap (λ es. times id (finished es)) (sym is.home.history)

  legal-here : IsLegal opening.limits m.history
  legal-here = subst (IsLegal opening.limits) (sym is.home.history) is.legal

  -- so what was picked and not ended runs
  pub due-runs : (id : Id) → times id (ended_in log) < times id (picked_in log) → is_among id (running (events_in log)) ≡ true
  due-runs id due = subst (λ es. is_among id (running es) ≡ true) is.home.history (in_flight-running m.history m.picked id (due-out opening.limits m id legal-here (omega (arith, due, is.picks id, ended-are id, one id))))

-- a seat among all that wrote the log, which a machine stands for
module _ (opening : PoolOpening) (log own : List LoggedEvent) (m : MachineView) (is : IsMachineOf opening log m) (covered : IsCovered MayHaveWritten log own) where
  -- the log without what the seat wrote has no more ends of a job than picks
  others : (id : Id) → times id (finished m.history) + times id (picked_in own) ≤ times id (starts_of m) + times id (taken m.history) + times id (ended_in own)
  others id = omega (arith, covered-ends MayHaveWritten log own covered (λ who entries fits. fits.balanced) id, is.picks id, ended-are opening log m is id)

  -- so no job was ended more often than it was picked
  pub few-job : (who : Rank) → MayHaveWritten who own → EndsOnlyPicked m
  few-job who fits id = let all = others id in let mine = fits.balanced id in omega (arith, all, mine)

  -- and a job that the seat picked and hasn't ended is out, whatever the others did
  pub due-job : (id : Id) → IsDue id own → is_among id (jobs_in_flight m) ≡ true
  due-job id due = let all = others id in let mine = due id in due-out opening.limits m id (legal-here opening log m is) (omega (arith, all, mine))

pub take-next : {A : Type 0} (n : ℕ) (xs : List A) (x : A) → slice_get xs n ≡ Some x → take (suc n) xs ≡ take n xs ++ x ∷ []
take-next n [] x is = absurd (cc is)
take-next zero (y ∷ xs) x is = let same : y ≡ x = cc in ap (λ (z : _). z ∷ []) same
take-next (suc n) (y ∷ xs) x is = ap (λ (l : List _). y ∷ l) (take-next n xs x is)
