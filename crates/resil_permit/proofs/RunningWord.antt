-- Each step on the running word is a step of the word machine, or none.
use Rattle.std.proofs.Common.{◌≡◌, ℕ, zero, suc, List, [], ◌∷◌, ◌++◌, set, get_or, refl, sym, ap, ◌∙◌, subst, append-nil}
use Rattle.atomic_table.specs.Table.{keeps, stepped}
use Rattle.resil_permit.specs.declared.step.Step.{Step}
use Rattle.resil_permit.specs.declared.word_machine.CallerState.TheVariants.{Idle}
use Rattle.resil_permit.specs.WordMachine.{start, CanMakeAll, after_steps}
use Rattle.resil_permit.specs.Rule.{Rule, first_pass_view, splitting_view, joining_pass_view, joined_view}
use Rattle.resil_permit.specs.Steps.{PassSeat, AfterNewPass}
use Rattle.resil_permit.specs.RunningWord.{Table, state_of, machine_of, StandsAfter, IsMove, IsNoMachineStep, OpensAsMachine, SplitsAsNoStep, EntersAsNoStep, JoinsAsNoStep}
use Rattle.resil_permit.proofs.Weavings.{after_steps-append, CanMakeAll-append}
use Rattle.resil_permit.proofs.BetweenSteps.{log_is_history, history_is_log}
use Rattle.resil_permit.proofs.ProtocolSteps.{Advances, opens, splits, joins, entering}
use Rattle.resil_permit.proofs.RunningMachines.{callers_of, same_machine, callers_still, callers_longer}

-- a table represents a state after these steps if it does so by the rule's log
stands_after : (max : ℕ) (s : Table) (steps : List Step) (k : Rule max s) → CanMakeAll (start max) steps → machine_of k.log s ≡ after_steps (start max) steps → StandsAfter Rule max s steps
stands_after max s steps k can is = record { rule = k; history = k.log; longest = log_is_history max s.words s.views k; can_make = can; machine = is }

by_log : (max : ℕ) (s : Table) (steps : List Step) (stands : StandsAfter Rule max s steps) → machine_of stands.rule.log s ≡ after_steps (start max) steps
by_log max s steps stands = ap (λ es. machine_of es s) (sym (history_is_log max s.words s.views stands.rule stands.history stands.longest)) ∙ stands.machine

-- a step of a pass, by the steps of the machine that it is
pub moves_as : {max index : ℕ} {me : PassSeat} {left : ℕ → ℕ} {Tells : ℕ → PassSeat → Type 0} {next : List Step} → Advances max index me left Tells next → IsMove Rule max index me left Tells (λ steps. steps ++ next)
moves_as {max} {index} {me} {left} {Tells} {next} advances s steps stands at =
    let g = advances.goes s stands.rule at in
    let now = stepped s 0 (left (get_or s.words 0 0)) index me.1 g.1 keeps in
    let is = by_log max s steps stands in
    let more = CanMakeAll-append (start max) steps next stands.can_make (subst (λ m. CanMakeAll m next) is g.0) in
    (g.1, g.3, stands_after max now (steps ++ next) g.2 more (g.4 ∙ (ap (λ m. after_steps m next) is ∙ sym (after_steps-append (start max) steps next))))

-- a step that is none of the machine's
pub stays_as : {max index : ℕ} {me : PassSeat} {Tells : ℕ → PassSeat → Type 0} → Advances max index me (λ n. n) Tells [] → IsNoMachineStep Rule max index me Tells
stays_as {max} {index} {me} {Tells} advances s steps stands at =
    let g = moves_as advances s steps stands at in
    (g.0, g.1, subst (StandsAfter Rule max (stepped s 0 (get_or s.words 0 0) index me.1 g.0 keeps)) (append-nil steps) g.2)

pub opens_as_machine : OpensAsMachine Rule first_pass_view
unfolding opens
opens_as_machine max few = stands_after max _ [] (opens max few) tt (same_machine max max _ _ [] refl each)
  where
    each : (c : ℕ) → callers_of (first_pass_view max ∷ []) c ≡ Idle
    each zero = refl
    each (suc c) = refl

pub splits_as_no_step : SplitsAsNoStep Rule (λ v. v) splitting_view
unfolding splits
splits_as_no_step max index v idle s steps stands at =
    stands_after max _ steps (splits max index v idle s stands.rule at) stands.can_make
    (same_machine _ _ _ _ stands.rule.log refl (λ c. callers_longer (set s.views index v) (splitting_view v) refl c ∙ callers_still s.views index v v at refl c) ∙ by_log max s steps stands)

pub joins_as_no_step : JoinsAsNoStep Rule joining_pass_view joined_view
unfolding joins
joins_as_no_step max index other v w idle idle' even clear s steps stands at apart there =
    let both = joining_pass_view v w in
    stands_after max _ steps (joins max index v other w idle idle' even clear s stands.rule at apart there) stands.can_make
    (same_machine _ _ _ _ stands.rule.log refl (λ c. callers_still (set s.views index both) other w joined_view there (ap state_of (sym idle')) c ∙ callers_still s.views index v both at (ap state_of (sym idle)) c) ∙ by_log max s steps stands)

pub enters_as_no_step : EntersAsNoStep Rule first_pass_view AfterNewPass
unfolding entering
enters_as_no_step max slots s steps stands =
    let new = entering max slots s stands.rule in (
      new.0,
      new.2,
      stands_after max _ steps new.1 stands.can_make (same_machine _ _ _ _ stands.rule.log refl (λ c. callers_longer s.views new.0 refl c) ∙ by_log max s steps stands),
    )
