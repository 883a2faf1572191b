-- Which machine a table stands for after one pass changes.
use Rattle.std.proofs.Common.{◌≡◌, ℕ, zero, suc, List, [], ◌∷◌, ◌++◌, length, set, get_or, refl, ap, ◌∙◌, arith, get_or-set_same}
use mathlib.Core.Option.{some}
use mathlib.Core.Logic.{dite}
use native.Mathlib.Decide.{ℕ_discrete}
use lib.ListN.{get_elem?}
use Rattle.atomic_table.specs.Table.{keeps, stepped}
use Rattle.atomic_table.proofs.Lists.{set_here, set_else}
use Rattle.resil_permit.specs.declared.event.PermitEvent.{PermitEvent}
use Rattle.resil_permit.specs.declared.protocol.View.{View}
use Rattle.resil_permit.specs.declared.word_machine.CallerState.{CallerState}
use Rattle.resil_permit.specs.declared.word_machine.CallerState.TheVariants.{Idle}
use Rattle.resil_permit.specs.WordMachine.{Machine, with_caller}
use Rattle.resil_permit.specs.RunningWord.{Table, state_of, state_at, machine_of}
use Rattle.resil_permit.proofs.Log.Places.{place_within}

abbrev pub callers_of : List View → ℕ → CallerState
callers_of views index = state_at (get_elem? views index)

abbrev pub machine : ℕ → (ℕ → CallerState) → List PermitEvent → Machine
machine word callers events = record { word = word; callers = callers; events = events }

-- machines are equal where their words are, their events, and each of their callers
pub same_machine : (word word' : ℕ) (callers callers' : ℕ → CallerState) (events : List PermitEvent) → word ≡ word' → ((c : ℕ) → callers c ≡ callers' c) → machine word callers events ≡ machine word' callers' events
same_machine word word' callers callers' events words each = λ i. machine (words i) (λ c. each c i) events

module _ (views : List View) (id : ℕ) (v w : View) (at : get_elem? views id ≡ some v) where
  -- the pass is as it was
  pub callers_still : state_of w.phase ≡ state_of v.phase → (c : ℕ) → callers_of (set views id w) c ≡ callers_of views c
  callers_still same c =
      let here = set_here views id w (place_within views id v at) in dite (ℕ_discrete c id) (λ is. cc) (λ not. ap state_at (set_else views id c w not))

  -- the pass now stands so
  callers_moved : (state : CallerState) → state_of w.phase ≡ state → (c : ℕ) → callers_of (set views id w) c ≡ with_caller (callers_of views) id state c
  callers_moved state same c = grind (arith, set_here views id w (place_within views id v at), set_else views id c w)

-- a pass that comes last and is idle is none
pub callers_longer : (views : List View) (last : View) → state_of last.phase ≡ Idle → (c : ℕ) → callers_of (views ++ last ∷ []) c ≡ callers_of views c
callers_longer [] last idle zero = idle
callers_longer [] last idle (suc c) = refl
callers_longer (v ∷ vs) last idle zero = refl
callers_longer (v ∷ vs) last idle (suc c) = callers_longer vs last idle c

module _ (s : Table) (id : ℕ) (v w : View) (at : get_elem? s.views id ≡ some v) (one_word : length s.words ≡ 1) (left word : ℕ) (becomes : left ≡ word) (carried : List (ℕ × Unit {0})) (now : List PermitEvent) where
  word_left : get_or (set s.words 0 left) 0 0 ≡ word
  word_left = get_or-set_same s.words 0 left 0 (omega arith) ∙ becomes

  pub stands_still : state_of w.phase ≡ state_of v.phase → machine_of now (stepped s 0 left id carried w keeps) ≡ machine word (callers_of s.views) now
  stands_still same = same_machine _ word _ _ now word_left (callers_still s.views id v w at same)

  pub stands_moved : (state : CallerState) → state_of w.phase ≡ state → machine_of now (stepped s 0 left id carried w keeps) ≡ machine word (with_caller (callers_of s.views) id state) now
  stands_moved state same = same_machine _ word _ _ now word_left (callers_moved s.views id v w at state same)
