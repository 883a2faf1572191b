-- How many events are owed, before and after each step.
use Rattle.std.proofs.Common.{◌≡◌, ◌≤◌, ◌+◌, [], ◌∷◌, suc, false, List, Some, None, length, drop, slice_get, arith, length-append}
use Rattle.resil_rule.specs.RuleView.{RuleView, owed, with_submission, with_pick, with_take, with_finish, with_close, with_idle_end, MayEndIdle}
use Rattle.resil_rule.specs.declared.event.Id.{Id}
use Rattle.resil_rule.specs.declared.event.Reply.{Reply}
use Rattle.resil_rule.specs.declared.event.Reply.TheVariants.{Core, Queued, Extra}
use Rattle.resil_rule.specs.declared.slots.Slot.{Slot}
use Rattle.resil_rule.proofs.SlotLaws.{put-length, clear-length}

-- a list with a known front is one longer than its rest
pub dropped : {A : Type 0} (xs : List A) (x : A) → slice_get xs 0 ≡ Some x → length (drop 1 xs) + 1 ≡ length xs
dropped [] x e = absurd (cc e)
dropped (y ∷ xs) x e = omega arith

-- a submission adds at most two owed events besides its own
pub submission-owes : {W : Type 0} (v : RuleView W) (id : Id) (work : W) (r : Reply) → owed (with_submission v id work r) ≤ owed v + 2
submission-owes v id work Core = let l = length-append v.unpicked ((id, work) ∷ []) in omega (arith, l)
submission-owes v id work Queued = let l = length-append v.waiting ((id, work) ∷ []) in omega (arith, l)
submission-owes v id work Extra = let l = length-append v.unpicked ((id, work) ∷ []) in omega (arith, l)
submission-owes v id work r = omega arith

module _ {W : Type 0} (v after : RuleView W) where
  pub pick-owes : (slot : Slot) (work : W) → slice_get v.out slot.place ≡ Some None → slice_get v.unpicked 0 ≡ Some (slot.id, work) → after ≡ with_pick v slot → owed after ≡ owed v
  pick-owes slot work free front same = rw same (omega (arith, put-length slot.id v.out slot.place free, dropped v.unpicked (slot.id, work) front))

  pub take-owes : (slot : Slot) (work : W) → slice_get v.out slot.place ≡ Some None → slice_get v.waiting 0 ≡ Some (slot.id, work) → after ≡ with_take v slot → suc (owed after) ≡ owed v
  take-owes slot work free front same = rw same (omega (arith, put-length slot.id v.out slot.place free, dropped v.waiting (slot.id, work) front))

  pub finish-owes : (slot : Slot) → slice_get v.out slot.place ≡ Some (Some slot.id) → after ≡ with_finish v slot → suc (owed after) ≡ owed v
  finish-owes slot there same = rw same (omega (arith, clear-length slot.id v.out slot.place there))

  pub idle-owes : MayEndIdle v → after ≡ with_idle_end v → suc (owed after) ≡ owed v
  idle-owes may same = rw same (omega (arith, may.1))

  pub close-owes : v.closed ≡ false → after ≡ with_close v → suc (owed after) ≡ owed v
  close-owes still same = rw (same, still) (omega arith)
