-- The workers of a legal history, and the maximum size at the opening.
use Rattle.std.proofs.Common.{◌≡◌, ◌≤◌, ◌+◌, ◌∷◌, [], ◌++◌, List, None, length, refl, arith}
use Rattle.std.proofs.lemmas.Bool.{cases_Bool}
use Rattle.std.proofs.lemmas.Grind.{common_steps}
use Rattle.resil_rule.specs.Limits.{Sizes}
use Rattle.resil_rule.specs.declared.event.Event.{Event}
use Rattle.resil_rule.specs.declared.event.Event.TheVariants.{Submit, Resized}
use Rattle.resil_rule.specs.History.{workers, started, started_id, is_closed, new_core, new_max, core_size, max_size}
use Rattle.resil_rule.specs.Admission.{IsAllowed, WorkersWithinOpening}
use Rattle.resil_rule.proofs.EventLaws.{count-more, ends-more}
use Rattle.resil_rule.proofs.FreshLaws.{holds-legal}
use Rattle.resil_rule.proofs.SizeLaws.{sizes-quiet, sizes-resized}

-- what each event keeps: neither the workers nor the sizes are above the maximum size at the opening
record AreWithin (limits : Sizes) (h : List Event) : Type 0 where
  workers_few : workers h ≤ limits.max
  core_small : core_size limits h ≤ limits.max
  max_small : max_size limits h ≤ limits.max

-- one event adds at most one worker
workers-push : (h : List Event) (e : Event) → workers (h ++ e ∷ []) ≤ workers h + length (started (e ∷ []))
workers-push h e = let s = count-more started_id h e in let i = ends-more h e in omega (arith, s, i)

-- the sizes stay within those of the opening if an event sets none
same-sizes : (limits : Sizes) (h : List Event) (e : Event) → AreWithin limits h → new_core e ≡ None → new_max e ≡ None
    → workers (h ++ e ∷ []) ≤ limits.max → AreWithin limits (h ++ e ∷ [])
same-sizes limits h e within no_core no_max few =
    let sizes = sizes-quiet limits h e (core_size limits h) (max_size limits h) no_core no_max (record { core_is = refl; max_is = refl }) in
    record { workers_few = few; core_small = omega (arith, sizes.core_is, within.core_small); max_small = omega (arith, sizes.max_is, within.max_small) }

within-push : (limits : Sizes) (h : List Event) (e : Event) → AreWithin limits h → IsAllowed limits h e → AreWithin limits (h ++ e ∷ [])
-- a submission gets a worker only if there are fewer workers than a size
within-push limits h (Submit id reply) within allowed =
    let one = workers-push h (Submit id reply) in
    let few : workers h + length (started (Submit id reply ∷ [])) ≤ limits.max =
    rw allowed.1 (grind (arith, common_steps, cases_Bool (is_closed h), within.workers_few, within.core_small, within.max_small)) in
    same-sizes limits h (Submit id reply) within refl refl (omega (arith, one, few))
within-push limits h (Resized core max) within allowed =
    let one = workers-push h (Resized core max) in
    let sizes = sizes-resized limits h core max in
    record {
      workers_few = omega (arith, one, within.workers_few);
      core_small = omega (arith, sizes.core_is, allowed.1, allowed.2);
      max_small = omega (arith, sizes.max_is, allowed.2);
    }
within-push limits h e within allowed = let one = workers-push h e in same-sizes limits h e within refl refl (omega (arith, one, within.workers_few))

pub workers-within_opening : WorkersWithinOpening
workers-within_opening limits h order legal =
    let at_first : AreWithin limits [] = record { workers_few = omega arith; core_small = order; max_small = omega arith } in
    (holds-legal limits (AreWithin limits) (within-push limits) h at_first legal).workers_few
