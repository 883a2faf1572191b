-- What a pool's machine is left with names its callers where it did before.
use Rattle.std.proofs.Common.{◌≡◌, ◌≢◌, ◌≤◌, ℕ, zero, suc, refl, List, [], ◌∷◌, ◌++◌, Option, None, sym, ap, ◌∙◌, subst, ⊎_elim, arith}
use Rattle.std.proofs.lemmas.List.Elements.{All-nil, All-push}
use Rattle.resil_pool.specs.Words.{PlanView, RunView, MachineView, with_submission, with_finish, IsPicked, Id, Reply, Event, Submit, Take, Finish, Close, Resized}
use Rattle.resil_pool.specs.Lock.{NamesCaller, AllNameCallers, log_event, events_in, closer_number, MatchesLog, LockSeatState, MayWrite, AppendedOne, IsTurn, Unchanged, AppendsToMachine, IsWorkersEvent, AppendsWorkersEvent, AppendsAtMostOne, AppendsCloseAtMost}
use Rattle.resil_pool.specs.NamedCallers.{IsCallersNumber, KeepsNames, LeavesNames}
use Rattle.resil_pool.proofs.Logs.{events_in-append}

module _ (callers : ℕ) where
  -- one event more was written, which names a caller, if it is a submission
  one_more_event : (old new : List Event) (e : Event) → new ≡ old ++ e ∷ [] → NamesCaller callers e → AllNameCallers callers old → AllNameCallers callers new
  one_more_event old new e is names all = subst (AllNameCallers callers) (sym is) (All-push (NamesCaller callers) old e all names)

  workers_event_names : (e : Event) → IsWorkersEvent e → NamesCaller callers e
  workers_event_names (Submit id reply) other = absurd other
  workers_event_names Close other = absurd other
  workers_event_names (Resized core max) other = absurd other
  workers_event_names _ other = tt

  -- what a caller's seat may write names that caller
  callers_event_names : (count number : ℕ) (e : Event) → IsCallersNumber callers number → MayWrite count number e → NamesCaller callers e
  callers_event_names count number (Submit id reply) is own = let low = is.0 in let high = is.1 in let same = own.0 in (omega arith, omega arith)
  callers_event_names count number _ is own = tt

  -- what the closer's seat may write isn't a submission
  closers_event_names : (count number : ℕ) (e : Event) → number ≡ closer_number → MayWrite count number e → NamesCaller callers e
  closers_event_names count number (Submit id reply) first own = absurd (own.1 first)
  closers_event_names count number _ first own = tt

  -- what a seat may write in a pool with this many callers names one of them, if it is a submission
  pub written_names : (number : ℕ) (e : Event) → MayWrite callers number e → NamesCaller callers e
  written_names number (Submit id reply) own = let same = own.0 in let apart = own.1 in let high = own.2 in (positive id.caller (λ zero. apart (sym same ∙ zero)), omega arith)
    where
      positive : (n : ℕ) → n ≢ 0 → 1 ≤ n
      positive zero apart = absurd (apart refl)
      positive (suc n) apart = omega arith
  written_names number _ own = tt

  pub opening_names : AllNameCallers callers []
  opening_names = All-nil (NamesCaller callers)

  pub submission_names : (old new : MachineView) (id : Id) (reply : Reply) (plan : PlanView) → IsCallersNumber callers id.caller → new ≡ with_submission old id reply plan → KeepsNames callers old new
  submission_names old new id reply plan is then = one_more_event old.history new.history (Submit id reply) (ap (λ (m : MachineView). m.history) then) is

  pub pick_names : (old new : MachineView) (id : Id) → IsPicked old id new → KeepsNames callers old new
  pick_names old new id picked = ⊎_elim
      (λ t. subst (AllNameCallers callers) (sym (ap (λ (m : MachineView). m.history) t.1)))
      (λ t. one_more_event old.history new.history (Take id) (ap (λ (m : MachineView). m.history) t.2) tt)
      picked

  pub finish_names : (old new : MachineView) (id : Id) (run : RunView) → new ≡ with_finish old id run → KeepsNames callers old new
  finish_names old new id run then = one_more_event old.history new.history (Finish id) (ap (λ (m : MachineView). m.history) then) tt

  pub worker_names : (old new : MachineView) → AppendsAtMostOne old new → KeepsNames callers old new
  worker_names old new may = ⊎_elim
      (λ (k : Unchanged old new). subst (AllNameCallers callers) (sym k.history))
      (λ (w : AppendsWorkersEvent old new). one_more_event old.history new.history w.event w.writes.history (workers_event_names w.event w.other))
      may

  pub closing_names : (old new : MachineView) → AppendsCloseAtMost old new → KeepsNames callers old new
  closing_names old new may = ⊎_elim
      (λ (k : Unchanged old new). subst (AllNameCallers callers) (sym k.history))
      (λ (w : AppendsToMachine None old Close new). one_more_event old.history new.history Close w.history tt)
      may

  pub resize_names : (old new : MachineView) (core max : ℕ) → AppendsToMachine None old (Resized core max) new → KeepsNames callers old new
  resize_names old new core max w = one_more_event old.history new.history (Resized core max) w.history tt

  -- a turn keeps the names, if all that its seat may write does
  seats_turn_names : (me : LockSeatState) (plan : Option PlanView) (machine : MachineView) → ((e : Event) → MayWrite me.0.key.callers me.0.number e → NamesCaller callers e) → IsTurn me plan machine → LeavesNames callers me machine
  seats_turn_names me plan machine names turn = ⊎_elim
      (λ (k : MatchesLog me.0.key.limits me.0.seen machine). subst (AllNameCallers callers) (sym k.history))
      (λ (w : AppendedOne me plan machine).
      one_more_event (events_in me.0.seen) machine.history w.event (w.home.history ∙ events_in-append me.0.seen (log_event plan w.event ∷ [])) (names w.event w.own))
      turn

  pub turn_names : (me : LockSeatState) (plan : Option PlanView) (machine : MachineView) → IsCallersNumber callers me.0.number → IsTurn me plan machine → LeavesNames callers me machine
  turn_names me plan machine is turn = seats_turn_names me plan machine (λ e own. callers_event_names me.0.key.callers me.0.number e is own) turn

  pub closers_turn_names : (me : LockSeatState) (plan : Option PlanView) (machine : MachineView) → me.0.number ≡ closer_number → IsTurn me plan machine → LeavesNames callers me machine
  closers_turn_names me plan machine first turn = seats_turn_names me plan machine (λ e own. closers_event_names me.0.key.callers me.0.number e first own) turn
