-- What each step of the word machine keeps.
use Rattle.std.proofs.Common.{◌≡◌, ◌≢◌, ℕ, ◌+◌, ◌-◌, ◌<◌, List, [], ◌∷◌, ◌++◌, length, sym, ap, ◌∙◌, subst, arith, eq-eqb, ne_eqb}
use Rattle.std.specs.Prelude.{if◌then◌else◌}
use mathlib.Core.Logic.{dite}
use native.Mathlib.Decide.{ℕ_discrete}
use Rattle.resil_permit.specs.declared.event.PermitEvent.{PermitEvent}
use Rattle.resil_permit.specs.declared.event.PermitEvent.TheVariants.{Took, Gave, Refused, Retired, Raised}
use Rattle.resil_permit.specs.declared.step.Step.{Step}
use Rattle.resil_permit.specs.declared.step.Step.TheVariants.{Load, Exchange, Add, Retire, Raise}
use Rattle.resil_permit.specs.declared.step.Shown.{Shown}
use Rattle.resil_permit.specs.declared.step.Shown.TheVariants as show
use Rattle.resil_permit.specs.declared.word_machine.CallerState.{CallerState}
use Rattle.resil_permit.specs.declared.word_machine.CallerState.TheVariants.{Idle, Loaded}
use Rattle.resil_permit.specs.History.{holders, holders_after, in_use_count, IsAllowed}
use Rattle.resil_permit.specs.WordMachine.{Machine, start, caller_of, with_caller, is_current, CanMake, shown_by, after_shown, after_step, CanMakeAll, after_steps, EveryInterleaving}
use Rattle.resil_permit.specs.WordMachineInvariant.{IsSound}
use Rattle.resil_permit.proofs.Histories.{holders-push, IsLegal-push}
use Rattle.resil_permit.proofs.Tallies.{one_more, tallied}

-- no caller has loaded 0
abbrev LoadsSome : (ℕ → CallerState) → Type 0
LoadsSome callers = (c n : ℕ) → callers c ≡ Loaded n → 0 < n

loads_some : (callers : ℕ → CallerState) (c : ℕ) (state : CallerState) → ((n : ℕ) → state ≡ Loaded n → 0 < n) → LoadsSome callers
    → LoadsSome (with_caller callers c state)
loads_some callers c state here some d n is = grind arith

-- an event that is allowed, with the word that fits it
pushed : (max word : ℕ) (callers : ℕ → CallerState) (m : Machine) (e : PermitEvent) → IsSound max m → IsAllowed max m.events e
    → word + length (holders_after (holders m.events) e) ≡ in_use_count max (m.events ++ e ∷ []) → LoadsSome callers
    → IsSound max (record { word = word; callers = callers; events = m.events ++ e ∷ [] })
pushed max word callers m e s may counts some =
    let now = IsLegal-push max m.events e s.legal may in
    let all = tallied max (m.events ++ e ∷ []) now in
    let counted = ap (λ (multiset : List ℕ). word + length multiset) (holders-push m.events e) ∙ counts in
    record { legal = now; counts = counted; within = omega arith; some_free = some }

-- what a load and an exchange show
pub shown_refused : (m : Machine) (c : ℕ) → m.word ≡ 0 → shown_by m (Load c) ≡ show.Refused
shown_refused m c is = ap (λ b. if b then show.Refused else show.Loaded) (eq-eqb m.word 0 is)

pub shown_loaded : (m : Machine) (c : ℕ) → m.word ≢ 0 → shown_by m (Load c) ≡ show.Loaded
shown_loaded m c not = ap (λ b. if b then show.Refused else show.Loaded) (ne_eqb m.word 0 not)

pub shown_took : (m : Machine) (c n : ℕ) → m.callers c ≡ Loaded n → m.word ≡ n → shown_by m (Exchange c) ≡ show.Took
shown_took m c n at is = ap (λ s. if is_current m.word s then show.Took else show.Lost) at ∙ ap (λ b. if b then show.Took else show.Lost) (eq-eqb m.word n is)

pub shown_lost : (m : Machine) (c n : ℕ) → m.callers c ≡ Loaded n → m.word ≢ n → shown_by m (Exchange c) ≡ show.Lost
shown_lost m c n at not = ap (λ s. if is_current m.word s then show.Took else show.Lost) at ∙ ap (λ b. if b then show.Took else show.Lost) (ne_eqb m.word n not)

-- a fact of the machine after what a step shows is one of the machine after the step
pub after_shown-is : (P : Machine → Type 0) (m : Machine) (step : Step) (s : Shown) → shown_by m step ≡ s → P (after_shown m (caller_of step) s) → P (after_step m step)
after_shown-is P m step s is h = subst (λ t. P (after_shown m (caller_of step) t)) (sym is) h

pub sound_step : (max : ℕ) (m : Machine) (step : Step) → CanMake m step → IsSound max m → IsSound max (after_step m step)
sound_step max m (Load c) can s = dite (ℕ_discrete m.word 0)
    (λ is. after_shown-is (IsSound max) m (Load c) show.Refused (shown_refused m c is)
    (pushed max m.word m.callers m (Refused c) s (omega arith) (omega (arith, one_more)) s.some_free))
    (λ not. after_shown-is (IsSound max) m (Load c) show.Loaded (shown_loaded m c not)
    (let loaded = loads_some m.callers c (Loaded m.word) (λ n e. let is : m.word ≡ n = cc in omega arith) s.some_free in
    record { legal = s.legal; counts = s.counts; within = s.within; some_free = loaded }))
sound_step max m (Exchange c) can s =
    let some = s.some_free c can.0 can.1 in
    let idle = loads_some m.callers c Idle (λ n e. absurd (cc)) s.some_free in
    dite (ℕ_discrete m.word can.0)
    (λ is. after_shown-is (IsSound max) m (Exchange c) show.Took (shown_took m c can.0 can.1 is)
    (pushed max (m.word - 1) (with_caller m.callers c Idle) m (Took c) s (omega arith) (omega (arith, one_more)) idle))
    (λ not. after_shown-is (IsSound max) m (Exchange c) show.Lost (shown_lost m c can.0 can.1 not)
    (record { legal = s.legal; counts = s.counts; within = s.within; some_free = idle }))
sound_step max m (Add c) can s =
    let all = tallied max m.events s.legal in pushed max (m.word + 1) m.callers m (Gave c) s (omega arith) (omega (arith, one_more)) s.some_free
sound_step max m (Retire c) can s =
    let all = tallied max m.events s.legal in pushed max m.word m.callers m (Retired c) s (omega arith) (omega (arith, one_more)) s.some_free
sound_step max m (Raise c) can s =
    let all = tallied max m.events s.legal in pushed max (m.word + 1) m.callers m (Raised c) s can.1 (omega (arith, one_more)) s.some_free

pub sound_steps : (max : ℕ) (m : Machine) (steps : List Step) → CanMakeAll m steps → IsSound max m → IsSound max (after_steps m steps)
sound_steps max m [] can s = s
sound_steps max m (x ∷ xs) can s = sound_steps max (after_step m x) xs can.1 (sound_step max m x can.0 s)

pub sound_start : (max : ℕ) → IsSound max (start max)
sound_start max = record { legal = tt; counts = omega arith; within = omega arith; some_free = λ c n is. absurd (cc) }

pub every_interleaving : EveryInterleaving
every_interleaving max steps can = let s = sound_steps max (start max) steps can (sound_start max) in (s.legal, s.counts, s.within)
