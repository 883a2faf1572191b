-- What a permitter answers, and what it holds.
use Rattle.std.specs.Prelude.{ℕ, ◌≡◌, ◌≢◌, ◌⊎◌, ◌<◌, ◌≤◌, ◌+◌, ◌++◌, ◌∷◌, [], Bool, true, false, List}
use Rattle.resil_decor.specs.declared.permitter.Asked.{Asked}

-- the ids that a permitter knows, which are those below a number, and its answers so far for each id
pub record PermitterAnswers : Type 0 where
  pub known : ℕ
  pub given : ℕ → List Bool

-- The permitter gave one answer. For an id that it knows, the answer is added to those of that id and of no other, and it may
-- come to know no id at all. For another id the answer is no, and nothing changes.
pub record IsAnswered (before : PermitterAnswers) (asked : Asked) (after : PermitterAnswers) : Type 0 where
  pub added : asked.id < before.known → after.given asked.id ≡ before.given asked.id ++ asked.granted ∷ []
  pub others : asked.id < before.known → (id : ℕ) → id ≢ asked.id → after.given id ≡ before.given id
  pub known : asked.id < before.known → (after.known ≡ before.known) ⊎ (after.known ≡ 0)
  pub unknown : before.known ≤ asked.id → (asked.granted ≡ false) × (after ≡ before)

-- the permitter gave these answers, one after the other
abbrev pub AreAnswered : PermitterAnswers → List Asked → PermitterAnswers → Type 0
AreAnswered before [] after = after ≡ before
AreAnswered before (asked ∷ more) after = (next : PermitterAnswers) × IsAnswered before asked next × AreAnswered next more after

-- answers given one after the other; the proof is here since the ghost members of an `impl` may name nothing else of their own crate
pub AreAnswered-append : (a b c : PermitterAnswers) (xs ys : List Asked) → AreAnswered a xs b → AreAnswered b ys c → AreAnswered a (xs ++ ys) c
AreAnswered-append a b c [] ys h k = rw h at k
AreAnswered-append a b c (x ∷ xs) ys h k = (h.0, h.1, AreAnswered-append h.0 b c xs ys h.2 k)

-- after an answer for an id, one more permit of it is held if the answer is yes
abbrev pub held_with : Bool → ℕ → ℕ
held_with true held = held + 1
held_with false held = held

-- after an answer, the permits of its id are counted accordingly, and those of no other id change
pub record IsHeldAfter (before : ℕ → ℕ) (asked : Asked) (after : ℕ → ℕ) : Type 0 where
  pub counted : after asked.id ≡ held_with asked.granted (before asked.id)
  pub others : (id : ℕ) → id ≢ asked.id → after id ≡ before id

-- one permit of an id was given back
pub record IsGivenBack (before : ℕ → ℕ) (id : ℕ) (after : ℕ → ℕ) : Type 0 where
  pub one_fewer : before id ≡ after id + 1
  pub others : (other : ℕ) → other ≢ id → after other ≡ before other
