-- Each step of the running word machine is the word machine's.
use Rattle.std.proofs.Common.{◌≡◌, ◌≢◌, ℕ, ◌+◌, ◌-◌, ◌<◌, ◌≤◌, List, length, set, get_or, refl, sym, ap, ◌∙◌, subst, arith, length-set, get_or-set_same, get_or-set_other, Ok, replicate}
use Rattle.std.proofs.lemmas.List.{get_or_default, length-replicate, get_or-replicate}
use mathlib.Core.Logic.{dite}
use native.Mathlib.Decide.{ℕ_discrete}
use Rattle.resil_permit.specs.declared.step.Step.{Step}
use Rattle.resil_permit.specs.declared.step.Step.TheVariants.{Load, Exchange, Add, Retire, Raise}
use Rattle.resil_permit.specs.declared.step.Shown.{Shown}
use Rattle.resil_permit.specs.declared.step.Shown.TheVariants as show
use Rattle.resil_permit.specs.declared.word_machine.CallerState.TheVariants.{Idle, Loaded}
use Rattle.resil_permit.specs.declared.word_machine.Caller.{Caller}
use Rattle.resil_permit.specs.History.{holders}
use Rattle.resil_permit.specs.WordMachine.{Machine, start, caller_of, CanMake, shown_by, after_shown, after_step}
use Rattle.resil_permit.specs.WordMachineInvariant.{IsSound, fresh_caller, Matches, Follows, Answers}
use Rattle.resil_permit.proofs.Histories.{copies_of_within}
use Rattle.resil_permit.proofs.Tallies.{more, tallied}
use Rattle.resil_permit.proofs.Machines.{sound_start, sound_step, shown_refused, shown_took}

module _ (max c : ℕ) (m : Machine) {word : ℕ} {callers : List Caller} {x : Caller} (f : Follows max m word callers)
    (inside : c < 65536) (read : x ≡ get_or callers c x) where
  -- what was read at a place is what is there
  here : Matches m c x
  here =
      let all = f.all_there in
      let there : get_or callers c fresh_caller ≡ x = get_or_default callers c fresh_caller x (omega arith) ∙ sym read in
      subst (Matches m c) there (f.each c inside)

  -- what a step of the caller shows leaves the others as they were
  others : (s : Shown) (d : ℕ) (y : Caller) → d ≢ c → Matches m d y → Matches (after_shown m c s) d y
  others show.Loaded d y apart old = record { state = grind arith; counts = old.counts }
  others show.Refused d y apart old = record { state = old.state; counts = grind (arith, more) }
  others show.Took d y apart old = record { state = grind arith; counts = grind (arith, more) }
  others show.Lost d y apart old = record { state = grind arith; counts = old.counts }
  others show.Gave d y apart old = record { state = old.state; counts = grind (arith, more) }
  others show.Retired d y apart old = record { state = old.state; counts = grind (arith, more) }
  others show.Raised d y apart old = record { state = old.state; counts = grind (arith, more) }

  -- a step of the caller that shows this, after which the word is so and the caller stands so
  answers : (step : Step) (s : Shown) (word' : ℕ) (y : Caller) → caller_of step ≡ c → CanMake m step → shown_by m step ≡ s → word' ≡ (after_shown m c s).word
      → Matches (after_shown m c s) c y → Answers max m step word' (set callers c y) (Ok s)
  answers step s word' y is can shows same_word mine =
      let after : after_shown m c s ≡ after_step m step = cc in
      let there : c < length callers = let all = f.all_there in omega arith in
      let follows : Follows max (after_shown m c s) word' (set callers c y) = record {
        few = f.few;
        sound = subst (IsSound max) (sym after) (sound_step max m step can f.sound);
        same_word = same_word;
        all_there = length-set callers c y ∙ f.all_there;
        each = λ d within. dite (ℕ_discrete d c)
            (λ same. subst (λ (k : ℕ). Matches (after_shown m c s) k (get_or (set callers c y) k fresh_caller)) (sym same)
            (subst (Matches (after_shown m c s) c) (sym (get_or-set_same callers c y fresh_caller there)) mine))
            (λ apart. subst (Matches (after_shown m c s) d) (sym (get_or-set_other callers c d y fresh_caller apart)) (others s d _ apart (f.each d within)));
      } in (can, sym shows, subst (λ (k : Machine). Follows max k word' (set callers c y)) after follows)

  pub load_refused : x.state ≡ Idle → word ≡ 0 → Answers max m (Load c) word (set callers c x) (Ok show.Refused)
  load_refused idle none =
      let mine = here in
      answers (Load c) show.Refused word x refl (sym mine.state ∙ idle) (shown_refused m c (sym f.same_word ∙ none)) f.same_word
      (record { state = mine.state; counts = grind (arith, more) })

  pub exchange_took : (n : ℕ) → x.state ≡ Loaded n → word ≡ n → Answers max m (Exchange c) (word - 1) (set callers c (record { state = Idle; held = x.held + 1; retired = x.retired })) (Ok show.Took)
  exchange_took n is hit =
      let mine = here in
      let at : m.callers c ≡ Loaded n = sym mine.state ∙ is in
      answers (Exchange c) show.Took (word - 1) _ refl (n, at) (shown_took m c n at (sym f.same_word ∙ hit)) (ap (λ (k : ℕ). k - 1) f.same_word)
      (record { state = grind arith; counts = grind (arith, more) })

  pub add_gave : x.state ≡ Idle → x.held ≢ 0 → Answers max m (Add c) (word + 1) (set callers c (record { state = x.state; held = x.held - 1; retired = x.retired })) (Ok show.Gave)
  add_gave idle some =
      let mine = here in
      answers (Add c) show.Gave (word + 1) _ refl (sym mine.state ∙ idle, omega arith) refl (ap (λ (k : ℕ). k + 1) f.same_word)
      (record { state = mine.state; counts = grind (arith, more) })

  pub retire_retired : x.state ≡ Idle → x.held ≢ 0 → Answers max m (Retire c) word (set callers c (record { state = x.state; held = x.held - 1; retired = x.retired + 1 })) (Ok show.Retired)
  retire_retired idle some =
      let mine = here in
      answers (Retire c) show.Retired word _ refl (sym mine.state ∙ idle, omega arith) refl f.same_word
      (record { state = mine.state; counts = grind (arith, more) })

  pub raise_raised : x.state ≡ Idle → x.retired ≢ 0 → Answers max m (Raise c) (word + 1) (set callers c (record { state = x.state; held = x.held; retired = x.retired - 1 })) (Ok show.Raised)
  raise_raised idle some =
      let mine = here in
      answers (Raise c) show.Raised (word + 1) _ refl (sym mine.state ∙ idle, omega arith) refl (ap (λ (k : ℕ). k + 1) f.same_word)
      (record { state = mine.state; counts = grind (arith, more) })

  -- the word, and what a caller holds and has retired, are no more than the permits
  pub room : word + x.held + x.retired ≤ 65535
  room =
      let mine = here in
      let all = tallied max m.events f.sound.legal in omega (arith, copies_of_within c (holders m.events), copies_of_within c all.0)

  -- a caller that has loaded a number finds a permit
  pub some_to_take : (n : ℕ) → x.state ≡ Loaded n → word ≡ n → 0 < word
  some_to_take n is hit =
      let mine = here in
      let some = f.sound.some_free c n (sym mine.state ∙ is) in omega arith

pub follows_start : (max : ℕ) (callers : List Caller) → max ≤ 65535 → callers ≡ replicate 65536 fresh_caller → Follows max (start max) max callers
follows_start max callers few is = record {
  few = few;
  sound = sound_start max;
  same_word = refl;
  all_there = ap length is ∙ length-replicate 65536 fresh_caller;
  each = λ c within. subst (Matches (start max) c) (sym (ap (λ (xs : List Caller). get_or xs c fresh_caller) is ∙ get_or-replicate 65536 c fresh_caller fresh_caller within)) (record { state = refl; counts = (refl, refl) });
}
