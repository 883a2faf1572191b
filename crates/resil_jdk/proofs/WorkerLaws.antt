-- Workers: each job that runs has one, and there are never more than the maximum size of the opening.
use Rattle.std.proofs.Common.{◌≡◌, ◌≤◌, ◌<◌, ◌+◌, ◌∷◌, [], ◌++◌, ◌∙◌, ℕ, List, Option, length, filter, ap, arith}
use Rattle.std.specs.List.{filter_map}
use Rattle.std.proofs.lemmas.List.Elements.{filter_map-append}
use Rattle.resil_rule.specs.Limits.{Sizes}
use Rattle.resil_rule.specs.History.{last_size}
use Rattle.resil_jdk.specs.Limits.{AreJdkLimits}
use Rattle.resil_jdk.specs.declared.event.JdkReply.TheVariants.{Core, First, Queued, Handed, Extra, Full, Closed}
use Rattle.resil_jdk.specs.declared.event.JdkEvent.{JdkEvent}
use Rattle.resil_jdk.specs.declared.event.JdkEvent.TheVariants.{Submit, Take, IdleEnd, Resized, Start, Cull}
use Rattle.resil_jdk.specs.History.{run_id, taken_id, finished_id, is_begin, is_end, new_core, new_max, run_at_once, taken, finished, workers, running, core_size, max_size}
use Rattle.resil_jdk.specs.Admission.{IsAllowed, IsLegal, WorkersWithinOpening, RunningWithinWorkers}
use Rattle.resil_jdk.proofs.HistoryLaws.{count-more, marks-more, legal-push, holds-legal, last_size-both}
use Rattle.resil_jdk.proofs.ConservationLaws.{as-many}
use Rattle.resil_jdk.proofs.ReplyLaws.{says-after}

module _ (limits : Sizes) where
  -- each job that runs has a worker that didn't end
  abbrev AreServed : List JdkEvent → Type 0
  AreServed h = IsLegal limits h × (length (run_at_once h) + length (taken h) + length (filter is_end h) ≤ length (finished h) + length (filter is_begin h))

  served-push : (h : List JdkEvent) (e : JdkEvent) → AreServed h → IsAllowed limits h e → AreServed (h ++ e ∷ [])
  served-push h e (legal, served) allowed =
      let s = count-more run_id h e in let t = count-more taken_id h e in let f = count-more finished_id h e in let b = marks-more is_begin h e in
      let d = marks-more is_end h e in let all = one e allowed in (legal-push limits h e legal allowed, omega (arith, s, t, f, b, d, all))
    where
      many : length (running h) + length (finished h) ≡ length (run_at_once h) + length (taken h)
      many = as-many limits h legal

      one : (e : JdkEvent) → IsAllowed limits h e → (length (run_at_once h) + length (run_at_once (e ∷ []))) + (length (taken h) + length (taken (e ∷ []))) + (length (filter is_end h) + length (filter is_end (e ∷ [])))
          ≤ (length (finished h) + length (finished (e ∷ []))) + (length (filter is_begin h) + length (filter is_begin (e ∷ [])))
      one (Submit id Core) may = omega (arith, served)
      one (Submit id First) may = omega (arith, served)
      one (Submit id Queued) may = omega (arith, served)
      one (Submit id Handed) may = let idle : length (running h) < workers h = says-after limits h Handed may.1 in omega (arith, served, many, idle)
      one (Submit id Extra) may = omega (arith, served)
      one (Submit id Full) may = omega (arith, served)
      one (Submit id Closed) may = omega (arith, served)
      one (Take id) may = omega (arith, served, many, may.1)
      one IdleEnd may = omega (arith, served, many, may.1)
      one Cull may = omega (arith, served, many, may.0)
      one e may = omega (arith, served)

  pub served : (h : List JdkEvent) → IsLegal limits h → length (running h) + length (filter is_end h) ≤ length (filter is_begin h)
  served h legal =
      let all = (holds-legal limits AreServed served-push h (tt, omega arith) legal).1 in let many = as-many limits h legal in omega (arith, all, many)

pub running-within_workers : RunningWithinWorkers
running-within_workers limits h legal = let all = served limits h legal in omega (arith, all)

-- ---- sizes
same-sizes : (other : ℕ) (f : JdkEvent → Option ℕ) (h : List JdkEvent) (e : JdkEvent) → last_size other (filter_map f (h ++ e ∷ [])) ≡ last_size (last_size other (filter_map f h)) (filter_map f (e ∷ []))
same-sizes other f h e = ap (last_size other) (filter_map-append f h (e ∷ [])) ∙ last_size-both other (filter_map f h) (filter_map f (e ∷ []))

module _ (limits : Sizes) (sized : AreJdkLimits limits) where
  record AreWithin (h : List JdkEvent) : Type 0 where
    workers_few : workers h ≤ limits.max
    core_small : core_size limits h ≤ limits.max
    max_small : max_size limits h ≤ limits.max

  -- a worker begins only below one of the sizes
  begins-below : (h : List JdkEvent) (e : JdkEvent) → AreWithin h → IsAllowed limits h e → workers h + length (filter is_begin (e ∷ [])) ≤ limits.max
  begins-below h (Submit id Core) within may = let b : workers h < core_size limits h = says-after limits h Core may.1 in omega (arith, b, within.core_small)
  begins-below h (Submit id First) within may = let b : workers h ≡ 0 = says-after limits h First may.1 in omega (arith, b, sized.max.0)
  begins-below h (Submit id Extra) within may = let b : workers h < max_size limits h = says-after limits h Extra may.1 in omega (arith, b, within.max_small)
  begins-below h (Submit id Queued) within may = omega (arith, within.workers_few)
  begins-below h (Submit id Handed) within may = omega (arith, within.workers_few)
  begins-below h (Submit id Full) within may = omega (arith, within.workers_few)
  begins-below h (Submit id Closed) within may = omega (arith, within.workers_few)
  begins-below h Start within may = omega (arith, may.0, within.core_small)
  begins-below h e within may = omega (arith, within.workers_few)

  -- sizes that are set are within those of the opening
  core-within : (h : List JdkEvent) (e : JdkEvent) → AreWithin h → IsAllowed limits h e → last_size (core_size limits h) (filter_map new_core (e ∷ [])) ≤ limits.max
  core-within h (Resized core max) within may = omega (arith, may.0, may.2)
  core-within h e within may = within.core_small

  max-within : (h : List JdkEvent) (e : JdkEvent) → AreWithin h → IsAllowed limits h e → last_size (max_size limits h) (filter_map new_max (e ∷ [])) ≤ limits.max
  max-within h (Resized core max) within may = may.2
  max-within h e within may = within.max_small

  within-push : (h : List JdkEvent) (e : JdkEvent) → AreWithin h → IsAllowed limits h e → AreWithin (h ++ e ∷ [])
  within-push h e within may =
      let b = marks-more is_begin h e in let d = marks-more is_end h e in let few = begins-below h e within may in let c = same-sizes limits.core new_core h e in
      let m = same-sizes limits.max new_max h e in
      record {
        workers_few = omega (arith, b, d, few);
        core_small = omega (arith, c, core-within h e within may);
        max_small = omega (arith, m, max-within h e within may);
      }

pub workers-within_opening : WorkersWithinOpening
workers-within_opening limits h sized legal =
    let at_first : AreWithin limits sized [] = record { workers_few = omega arith; core_small = sized.max.1; max_small = omega arith } in
    (holds-legal limits (AreWithin limits sized) (within-push limits sized) h at_first legal).workers_few
