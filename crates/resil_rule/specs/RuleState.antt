-- Which histories may have led to the rule's state, and what a step adds to each of them.
use Rattle.std.specs.Prelude.{◌≢◌, ◌⊎◌, suc, ℕ, ◌≡◌, ◌+◌, ◌-◌, ◌≤◌, ◌<◌, ◌++◌, ◌∷◌, [], List, Some, None, length, drop, slice_get}
use Rattle.resil_rule.specs.History.{times, started, accepted, waiting, running, submissions}
use Rattle.resil_rule.specs.Admission.{IsAllowed, IsLegal}
use Rattle.resil_rule.specs.Numbers.{AreNumbersOf, AreSizesOf}
use Rattle.resil_rule.specs.Slots.{ids_out}
use Rattle.resil_rule.specs.RuleView.{RuleView, ids_of, busy, made_by, next_reply, counted, with_pick, with_take}
use Rattle.resil_rule.specs.declared.event.Id.{Id}
use Rattle.resil_rule.specs.declared.event.Event.{Event}
use Rattle.resil_rule.specs.declared.event.Event.TheVariants as event
use Rattle.resil_rule.specs.declared.event.Reply.TheVariants.{Full, Closed}
use Rattle.resil_rule.specs.declared.rule.Picked.{Picked}
use Rattle.resil_rule.specs.declared.rule.Origin.TheVariants as origin
use Rattle.resil_rule.specs.declared.error.Refusal.{Refusal}
use Rattle.resil_rule.specs.declared.error.Refusal.TheVariants as refused

module _ {W : Type 0} where
  -- The history is legal, and the state agrees with it in all that the rule of admission uses.
  pub record IsStateOf (history : List Event) (v : RuleView W) : Type 0 where
    pub legal : IsLegal v.limits history
    pub sizes : AreSizesOf v.limits history v.core v.max
    pub numbers : AreNumbersOf history v.closed v.workers (busy v) (length (accepted history))
    -- the jobs that weren't picked yet are the last ones that got their own worker
    pub unpicked : ids_of v.unpicked ≡ drop (length (started history) - length v.unpicked) (started history)
    pub waiting_is : ids_of v.waiting ≡ waiting history
    -- the jobs that run are those that weren't picked yet and those that are out
    pub runs : (id : Id) → times id (running history) ≡ times id (ids_of v.unpicked) + times id (ids_out v.out)
    pub made_are : (caller : ℕ) → made_by v caller ≡ length (submissions history caller)

  -- One event more: it may follow each history that may have led to the old state, and with it that history may have led to the new state.
  abbrev pub Follows : RuleView W → Event → RuleView W → Type 0
  Follows before event after =
      (history : List Event) → IsStateOf history before → IsAllowed before.limits history event × IsStateOf (history ++ event ∷ []) after

  -- No event: each history that may have led to the old state may have led to the new one.
  abbrev pub StaysAt : RuleView W → RuleView W → Type 0
  StaysAt before after = (history : List Event) → IsStateOf history before → IsStateOf history after

  -- A job was picked and has a place that was free. It is the oldest job with its own worker that wasn't picked yet, which adds no
  -- event; if there is none, it is the job at the front of the queue, which is taken.
  abbrev pub IsPicked : RuleView W → Picked W → RuleView W → Type 0
  IsPicked before p after = (slice_get before.out p.slot.place ≡ Some None)
      × (((p.origin ≡ origin.OwnStart) × (slice_get before.unpicked 0 ≡ Some (p.slot.id, p.work)) × (after ≡ with_pick before p.slot) × StaysAt before after)
      ⊎ ((p.origin ≡ origin.Queue) × (before.unpicked ≡ []) × (slice_get before.waiting 0 ≡ Some (p.slot.id, p.work)) × (after ≡ with_take before p.slot)
      × Follows before (event.Take p.slot.id) after))

  -- There is nothing to pick: each job with its own worker was picked, and none may be taken, for any history.
  abbrev pub HasNoneToPick : RuleView W → Type 0
  HasNoneToPick v = (v.unpicked ≡ []) × ((history : List Event) → IsStateOf history v → (id : Id) → ¬ IsAllowed v.limits history (event.Take id))

  -- Why a submission is refused: its caller isn't in the table, or it is but the number isn't its next one, and then nothing is changed;
  -- or the rule of admission refuses it, which is an event and counts.
  abbrev pub IsSubmitRefusal : RuleView W → Id → Refusal → RuleView W → Type 0
  IsSubmitRefusal before id refused.NoSuchCaller after = (length before.made ≤ id.caller) × (after ≡ before)
  IsSubmitRefusal before id refused.WrongNumber after = (id.caller < length before.made) × (id.number ≢ suc (made_by before id.caller)) × (after ≡ before)
  IsSubmitRefusal before id refused.Full after = (next_reply before ≡ Full) × (after ≡ counted before id) × Follows before (event.Submit id Full) after
  IsSubmitRefusal before id refused.Closed after = (next_reply before ≡ Closed) × (after ≡ counted before id) × Follows before (event.Submit id Closed) after
