-- The jobs that run in a legal history, and its workers.
use Rattle.std.proofs.Common.{◌≤◌, ◌+◌, ◌∷◌, [], ◌++◌, List, length, filter, refl, arith}
use Rattle.resil_rule.specs.Limits.{Sizes}
use Rattle.resil_rule.specs.Numbers.{AreNumbersOf}
use Rattle.resil_rule.specs.History.{taken_id, finished_id, is_idle_end, taken, finished, accepted, workers, running, is_closed}
use Rattle.resil_rule.specs.Admission.{IsAllowed, IsLegal, RunningWithinWorkers}
use Rattle.resil_rule.specs.declared.event.Event.{Event}
use Rattle.resil_rule.specs.declared.event.Event.TheVariants.{Take, IdleEnd}
use Rattle.resil_rule.proofs.LegalLaws.{legal-push}
use Rattle.resil_rule.proofs.FreshLaws.{holds-legal, taken-le}
use Rattle.resil_rule.proofs.EventLaws.{count-more, ends-more}
use Rattle.resil_rule.proofs.ConservationLaws.{as-many}

-- the numbers of a history are those that its filters give, and they agree with each other
abbrev pub HaveNumbers : List Event → Type 0
HaveNumbers h = AreNumbersOf h (is_closed h) (workers h) (length (running h)) (length (accepted h))

module _ (limits : Sizes) where
  -- each worker that took a job or ended had finished a job before
  abbrev AreFreed : List Event → Type 0
  AreFreed h = IsLegal limits h × (length (taken h) + length (filter is_idle_end h) ≤ length (finished h))

  freed-push : (h : List Event) (e : Event) → AreFreed h → IsAllowed limits h e → AreFreed (h ++ e ∷ [])
  freed-push h e (legal, freed) allowed =
      let t = count-more taken_id h e in
      let i = ends-more h e in
      let f = count-more finished_id h e in
      let all = one e allowed in
      (legal-push limits h e legal allowed, omega (arith, t, i, f, all))
    where
      one : (e : Event) → IsAllowed limits h e → length (taken h) + length (taken (e ∷ [])) + (length (filter is_idle_end h) + length (filter is_idle_end (e ∷ []))) ≤ length (finished h) + length (finished (e ∷ []))
      one (Take id) may = let all = as-many limits h legal in omega (arith, all, may.1)
      one IdleEnd may = let all = as-many limits h legal in omega (arith, all, may.1)
      one e may = omega (arith, freed)

  pub numbers-legal : (h : List Event) → IsLegal limits h → HaveNumbers h
  numbers-legal h legal =
      let freed = (holds-legal limits AreFreed freed-push h (tt, omega arith) legal).1 in
      let all = as-many limits h legal in
      record {
        closed_is = refl;
        workers_are = refl;
        running_are = refl;
        accepted_are = refl;
        ended_few = omega (arith, freed, all);
        running_few = omega (arith, freed, all);
        taken_few = taken-le limits h legal;
      }

pub running-within_workers : RunningWithinWorkers
running-within_workers limits h legal = (numbers-legal limits h legal).running_few
