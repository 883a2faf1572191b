-- What the loop of a weaving keeps.
use Rattle.std.proofs.Common.{◌≡◌, ℕ, ◌+◌, ◌<◌, ◌≤◌, List, [], ◌∷◌, ◌++◌, length, take, drop, get_or, refl, sym, ap, ◌∙◌, subst, arith, append-nil, Ok}
use Rattle.std.specs.Option.{option_to_list}
use Rattle.std.proofs.lemmas.List.{take_more, drop_more, take-append-drop, length-take-le}
use Rattle.resil_permit.specs.declared.event.PermitEvent.{PermitEvent}
use Rattle.resil_permit.specs.declared.step.Step.{Step}
use Rattle.resil_permit.specs.declared.step.Step.TheVariants.{Load, Exchange, Add, Retire, Raise}
use Rattle.resil_permit.specs.declared.step.Shown.{Shown}
use Rattle.resil_permit.specs.declared.step.Shown.TheVariants as show
use Rattle.resil_permit.specs.declared.word_machine.Caller.{Caller}
use Rattle.resil_permit.specs.declared.word_machine.StepError.{StepError}
use Rattle.resil_permit.specs.declared.word_machine.StepError.TheVariants as stuck
use Rattle.resil_permit.specs.declared.interleaving.WeaveError.{WeaveError}
use Rattle.resil_permit.specs.declared.interleaving.WeaveError.TheVariants.{Memory, TooManyPermits, NotLoaded, NotHolding, StillLoaded, NotRetired}
use Rattle.resil_permit.specs.WordMachine.{Machine, start, caller_of, CanMake, shown_by, after_shown, after_step, CanMakeAll, after_steps, all_shown, event_shown}
use Rattle.resil_permit.specs.WordMachineInvariant.{Follows, IsStuck, Answers}
use Rattle.resil_permit.specs.Weaving.{IsFirstStuck, IsRefusedFor, error_at}

pub after_steps-append : (m : Machine) (steps more : List Step) → after_steps m (steps ++ more) ≡ after_steps (after_steps m steps) more
after_steps-append m [] more = refl
after_steps-append m (x ∷ xs) more = after_steps-append (after_step m x) xs more

all_shown-push : (m : Machine) (steps : List Step) (step : Step) → all_shown m (steps ++ step ∷ []) ≡ all_shown m steps ++ shown_by (after_steps m steps) step ∷ []
all_shown-push m [] step = refl
all_shown-push m (x ∷ xs) step = ap (λ (rest : List Shown). shown_by m x ∷ rest) (all_shown-push (after_step m x) xs step)

pub CanMakeAll-append : (m : Machine) (steps more : List Step) → CanMakeAll m steps → CanMakeAll (after_steps m steps) more → CanMakeAll m (steps ++ more)
CanMakeAll-append m [] more made can = can
CanMakeAll-append m (x ∷ xs) more made can = (made.0, CanMakeAll-append (after_step m x) xs more made.1 can)

events_after_shown : (m : Machine) (c : ℕ) (s : Shown) → (after_shown m c s).events ≡ m.events ++ option_to_list (event_shown c s)
events_after_shown m c show.Loaded = sym (append-nil m.events)
events_after_shown m c show.Lost = sym (append-nil m.events)
events_after_shown m c s = refl

-- the first n steps were made, and the running machine and the lists are as these steps leave them
pub record IsWovenSoFar (max : ℕ) (steps : List Step) (n word : ℕ) (callers : List Caller) (shown : List Shown) (events : List PermitEvent) : Type 0 where
  pub made : CanMakeAll (start max) (take n steps)
  pub follows : Follows max (after_steps (start max) (take n steps)) word callers
  pub shown_is : shown ≡ all_shown (start max) (take n steps)
  pub events_is : events ≡ (after_steps (start max) (take n steps)).events

pub woven_more : (max : ℕ) (steps : List Step) (n word word' : ℕ) (callers callers' : List Caller) (shown : List Shown) (events : List PermitEvent) (d : Step) (s : Shown) → IsWovenSoFar max steps n word callers shown events → n < length steps
    → Answers max (after_steps (start max) (take n steps)) (get_or steps n d) word' callers' (Ok s) → IsWovenSoFar max steps (n + 1) word' callers' (shown ++ s ∷ []) (events ++ option_to_list (event_shown (caller_of (get_or steps n d)) s))
woven_more max steps n word word' callers callers' shown events d s w less a =
    let front = take n steps in
    let step = get_or steps n d in
    let m = after_steps (start max) front in
    let parts : take (n + 1) steps ≡ front ++ step ∷ [] = take_more steps n d less in
    let after : after_steps (start max) (take (n + 1) steps) ≡ after_step m step = ap (after_steps (start max)) parts ∙ after_steps-append (start max) front (step ∷ []) in
    record {
      made = subst (CanMakeAll (start max)) (sym parts) (CanMakeAll-append (start max) front (step ∷ []) w.made (a.0, tt));
      follows = subst (λ (k : Machine). Follows max k word' callers') (sym after) a.2;
      shown_is = ap (λ (xs : List Shown). xs ++ s ∷ []) w.shown_is ∙ (ap (λ (t : Shown). all_shown (start max) front ++ t ∷ []) a.1 ∙ (sym (all_shown-push (start max) front step) ∙ ap (all_shown (start max)) (sym parts)));
      events_is = ap (λ (es : List PermitEvent). es ++ option_to_list (event_shown (caller_of step) s)) w.events_is
          ∙ (ap (λ (t : Shown). m.events ++ option_to_list (event_shown (caller_of step) t)) a.1 ∙ (sym (events_after_shown m (caller_of step) (shown_by m step)) ∙ ap (λ (k : Machine). k.events) (sym after)));
    }

module _ (max : ℕ) (steps : List Step) (n : ℕ) (d : Step) (made : CanMakeAll (start max) (take n steps)) (less : n < length steps) where
  first_stuck : (Why : Machine → Step → Type 0) → Why (after_steps (start max) (take n steps)) (get_or steps n d) → IsFirstStuck max steps Why (n + 1)
  first_stuck Why is = record {
    front = take n steps;
    step = get_or steps n d;
    back = drop (n + 1) steps;
    parts = sym (ap (λ (rest : List Step). take n steps ++ rest) (sym (drop_more steps n d less)) ∙ take-append-drop n steps);
    place_is = ap (λ (k : ℕ). k + 1) (sym (length-take-le n steps (omega arith)));
    made = made;
    is_stuck = is;
  }

  pub refused_at : max ≤ 65535 → (why : StepError) → IsStuck (after_steps (start max) (take n steps)) (get_or steps n d) why → IsRefusedFor max steps (error_at why (n + 1))
  refused_at few stuck.NotLoaded is = (few, first_stuck _ is)
  refused_at few stuck.NotHolding is = (few, first_stuck _ is)
  refused_at few stuck.StillLoaded is = (few, first_stuck _ is)
  refused_at few stuck.NotRetired is = (few, first_stuck _ is)

can_make_there : (m : Machine) (front : List Step) (step : Step) (back : List Step) → CanMakeAll m (front ++ step ∷ back) → CanMake (after_steps m front) step
can_make_there m [] step back all = all.0
can_make_there m (x ∷ xs) step back all = can_make_there (after_step m x) xs step back all.1

not_both : (m : Machine) (step : Step) (why : StepError) → CanMake m step → IsStuck m step why → ⊥
not_both m (Load c) stuck.StillLoaded can is = cc (is.1)
not_both m (Exchange c) stuck.NotLoaded can is = cc (can.1)
not_both m (Add c) stuck.NotHolding can is = omega arith
not_both m (Add c) stuck.StillLoaded can is = cc (can.0, is.1)
not_both m (Retire c) stuck.NotHolding can is = omega arith
not_both m (Retire c) stuck.StillLoaded can is = cc (can.0, is.1)
not_both m (Raise c) stuck.StillLoaded can is = cc
not_both m (Raise c) stuck.NotRetired can is = grind arith
not_both m step why can is = is

none_stuck : (max : ℕ) (steps : List Step) (why : StepError) (place : ℕ) → CanMakeAll (start max) steps → IsFirstStuck max steps (λ m step. IsStuck m step why) place → ⊥
none_stuck max steps why place all f = not_both (after_steps (start max) f.front) f.step why (can_make_there (start max) f.front f.step f.back (subst (CanMakeAll (start max)) f.parts all)) f.is_stuck

-- if all steps can be made, only memory can be lacking
pub memory_alone : (max : ℕ) (steps : List Step) (e : WeaveError) → max ≤ 65535 → CanMakeAll (start max) steps → IsRefusedFor max steps e → e ≡ Memory
memory_alone max steps Memory few all is = refl
memory_alone max steps TooManyPermits few all is = absurd (omega arith)
memory_alone max steps (NotLoaded place) few all is = absurd (none_stuck max steps stuck.NotLoaded place all is.1)
memory_alone max steps (NotHolding place) few all is = absurd (none_stuck max steps stuck.NotHolding place all is.1)
memory_alone max steps (StillLoaded place) few all is = absurd (none_stuck max steps stuck.StillLoaded place all is.1)
memory_alone max steps (NotRetired place) few all is = absurd (none_stuck max steps stuck.NotRetired place all is.1)
