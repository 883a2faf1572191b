-- An event that the rule refuses is allowed after no history that may have led to its state.
use Rattle.std.proofs.Common.{inl, inr, ◌≡◌, ◌-◌, ◌∷◌, [], ◌++◌, ◌∙◌, true, List, Some, slice_get, length, drop, take, refl, sym, ap, arith}
use Rattle.std.proofs.lemmas.Bool.{cases_Bool}
use Rattle.std.proofs.lemmas.List.{take-append-drop}
use Rattle.resil_rule.specs.Admission.{IsAllowed}
use Rattle.resil_rule.specs.History.{is_among, times, started, taken, finished, unfinished, running}
use Rattle.resil_rule.specs.Slots.{ids_out}
use Rattle.resil_rule.specs.RuleView.{RuleView, ids_of, MayEndIdle}
use Rattle.resil_rule.specs.RuleState.{IsStateOf}
use Rattle.std.specs.Option.{option_map}
use Rattle.std.proofs.lemmas.Option.{slice_get-map}
use Rattle.resil_rule.specs.declared.event.Id.{Id}
use Rattle.resil_rule.specs.declared.event.Event.{Event}
use Rattle.resil_rule.specs.declared.event.Event.TheVariants.{Take, Finish, IdleEnd}
use Rattle.resil_rule.proofs.TimesLaws.{times-append, times-left, among-times, is_positive}

module _ {W : Type 0} (v : RuleView W) (h : List Event) (state : IsStateOf h v) where
  -- a job that may be taken is at the front of the queue
  pub take-only : (id : Id) → IsAllowed v.limits h (Take id) → option_map (λ job. job.0) (slice_get v.waiting 0) ≡ Some id
  take-only id allowed = sym (slice_get-map (λ job. job.0) v.waiting 0) ∙ ap (λ (ids : List Id). slice_get ids 0) state.waiting_is ∙ allowed.0

  -- if each job with its own worker was picked, a job that runs is out
  pub out-only : v.unpicked ≡ [] → (id : Id) → IsAllowed v.limits h (Finish id) → is_among id (ids_out v.out) ≡ true
  out-only picked id allowed =
      let none : times id (ids_of v.unpicked) ≡ 0 = ap (λ (jobs : List (Id × W)). times id (ids_of jobs)) picked in
      let both = state.runs id in
      let all : times id (running h) ≡ times id (ids_out v.out) = omega (arith, both, none) in
      among-times id (ids_out v.out) ∙ ap is_positive (sym all) ∙ sym (among-times id (running h)) ∙ allowed

  -- an idle worker may end only if the rule says so
  pub idle-only : IsAllowed v.limits h IdleEnd → MayEndIdle v
  idle-only allowed =
      let none : ids_of v.waiting ≡ [] = state.waiting_is ∙ allowed.0 in (
        empty v.waiting none,
        omega (arith, allowed.1, state.numbers.running_are, state.numbers.workers_are),
        elim allowed.2 [ inl spare ↦ inl (omega (arith, spare, state.sizes.core_is, state.numbers.workers_are)) | inr closed ↦ inr (state.numbers.closed_is ∙ closed) ],
      )
    where
      empty : (jobs : List (Id × W)) → ids_of jobs ≡ [] → jobs ≡ []
      empty [] none = refl
      empty (job ∷ jobs) none = absurd (cc none)

  -- the jobs that are out are those that were picked or taken and aren't finished
  pub out-are : (id : Id) → is_among id (ids_out v.out) ≡ is_among id (unfinished h (take (length (started h) - length v.unpicked) (started h) ++ taken h))
  out-are id =
      let count = length (started h) - length v.unpicked in
      let picked = take count (started h) in
      let split = ap (times id) (sym (take-append-drop count (started h))) ∙ times-append id picked (drop count (started h)) in
      let later = ap (times id) state.unpicked in
      let all = times-left (finished h) (started h) (taken h) id in
      let left = times-left (finished h) picked (taken h) id in
      let same : times id (ids_out v.out) ≡ times id (unfinished h (picked ++ taken h)) =
      grind (arith, state.runs id, split, later, all, left, cases_Bool (is_among id (finished h))) in
      among-times id (ids_out v.out) ∙ ap is_positive same ∙ sym (among-times id (unfinished h (picked ++ taken h)))

-- the laws that a refusal of an event needs
pub ruleset barred = (take-only, out-only, idle-only)
