-- The first line of a text, and the parts of an input.
use Rattle.std.proofs.Common.{◌≡◌, ◌<◌, ◌+◌, ◌==◌, ◌∷◌, ◌++◌, ◌∙◌, ℕ, zero, suc, true, false, List, [], length, take, drop, min, Some, None, Option, refl, sym, ap, arith, append_assoc, append-nil, if◌then◌else◌}
use Rattle.std.proofs.lemmas.Grind.{common_steps}
use Rattle.std.proofs.lemmas.List.{drop-drop}
use Rattle.std.proofs.Math.Seq.{take-add}
use Rattle.std.specs.List.{concat, IsFirstMatchOrLen}
use Rattle.resil_input.specs.Framing.{cut_at_separator, is_separator, lines_of, onto_first, parts_of, with_prefix}

-- one more byte before the lines of a text; the first line ends after `index`
longer : (byte : ℕ) (rest : List ℕ) (index : ℕ) → (0 < length rest → lines_of rest ≡ take (suc index) rest ∷ lines_of (drop (suc index) rest))
    → onto_first byte (lines_of rest) ≡ (byte ∷ take (suc index) rest) ∷ lines_of (drop (suc index) rest)
unfolding lines_of
longer byte [] index lines = refl
longer byte (next ∷ rest) index lines = let some : 0 < length (next ∷ rest) = omega arith in ap (onto_first byte) (lines some)

-- the first line ends with the first line feed, or with the text
lines_of-first : (text : List ℕ) (index : ℕ) → IsFirstMatchOrLen (λ byte. byte == 10) text index → 0 < length text
    → lines_of text ≡ take (suc index) text ∷ lines_of (drop (suc index) text)
unfolding lines_of
lines_of-first [] index first some = absurd (omega arith)
lines_of-first (byte ∷ rest) zero first some = let feed : (byte == 10) ≡ true = first.1 some 0 in rw feed refl
lines_of-first (byte ∷ rest) (suc index) first some =
    let other : (byte == 10) ≡ false = first.0 0 0 (omega arith) (omega arith) in
    let further = lines_of-first rest index ((λ k d low high. first.0 (suc k) d (omega arith) (omega arith)), (λ within d. first.1 (omega arith) d)) in
    rw other (longer byte rest index further)

-- the line of a text that begins at `start`, and what follows it
pub record IsLineAt (text : List ℕ) (start : ℕ) (line rest : List ℕ) : Type 0 where
  pub cut : drop start text ≡ line ++ rest
  pub first : lines_of (drop start text) ≡ line ∷ lines_of rest

-- a text that is cut after the first line feed, or at its end, is cut after its first line
pub line_at : (text tail line rest : List ℕ) (start index : ℕ) → tail ≡ drop start text → tail ≡ line ++ rest → length line ≡ min (index + 1) (length tail)
    → IsFirstMatchOrLen (λ byte. byte == 10) tail index → 0 < length tail → IsLineAt text start line rest
line_at text tail line rest start index here cut size first some =
    let front : take (suc index) tail ≡ line = grind (arith, common_steps) in
    let back : drop (suc index) tail ≡ rest = grind (arith, common_steps) in
    record { cut = sym here ∙ cut; first = ap lines_of (sym here) ∙ lines_of-first tail index first some ∙ rw (front, back) refl }

onto_first-whole : (byte : ℕ) (lines : List (List ℕ)) → concat (onto_first byte lines) ≡ byte ∷ concat lines
onto_first-whole byte [] = refl
onto_first-whole byte (line ∷ lines) = refl

pub concat-lines_of : (text : List ℕ) → concat (lines_of text) ≡ text
unfolding lines_of
concat-lines_of [] = refl
concat-lines_of (byte ∷ rest) =
    elim (byte == 10) as (λ feed. concat (if feed then (byte ∷ []) ∷ lines_of rest else onto_first byte (lines_of rest)) ≡ byte ∷ rest)
    [ true ↦ ap (λ r. byte ∷ r) (concat-lines_of rest) | false ↦ onto_first-whole byte (lines_of rest) ∙ ap (λ r. byte ∷ r) (concat-lines_of rest) ]

with_prefix-append : (a b : List ℕ) (parts : Option (List ℕ × List ℕ)) → with_prefix a (with_prefix b parts) ≡ with_prefix (a ++ b) parts
with_prefix-append a b None = refl
with_prefix-append a b (Some p) = ap (λ head. Some (head, p.1)) (sym (append_assoc a b p.0))

-- a text whose lines before `start` are no separators, and the line that begins there
module _ (text line rest : List ℕ) (start : ℕ) (at : IsLineAt text start line rest) where
  -- what follows the line
  pub rest-drop : rest ≡ drop (start + length line) text
  rest-drop =
      let after : drop (length line) (line ++ rest) ≡ rest = grind (arith, common_steps) in
      sym (sym (drop-drop (length line) start text) ∙ ap (drop (length line)) at.cut ∙ after)

  module _ (before : parts_of text ≡ with_prefix (take start text) (parts_of (drop start text))) where
    -- where the line is a separator, it parts the text
    pub parts_of-found : is_separator line ≡ true → parts_of text ≡ Some (take start text, rest)
    unfolding cut_at_separator
    parts_of-found met = before ∙ rw (at.first, met, concat-lines_of rest) (ap (λ head. Some (head, rest)) (append-nil (take start text)))

    -- where the line is no separator, the parts are found in what follows it
    pub parts_of-next : is_separator line ≡ false → parts_of text ≡ with_prefix (take (start + length line) text) (parts_of rest)
    unfolding cut_at_separator
    parts_of-next other =
        let whole : take (length line) (line ++ rest) ≡ line = grind (arith, common_steps) in
        let front : take (start + length line) text ≡ take start text ++ line =
        take-add start (length line) text ∙ ap (λ l. take start text ++ l) (ap (take (length line)) at.cut ∙ whole) in
        before ∙ rw (at.first, other) (with_prefix-append (take start text) line (parts_of rest) ∙ ap (λ l. with_prefix l (parts_of rest)) (sym front))

-- if no line is left, the text has no parts
pub parts_of-end : (text : List ℕ) (start : ℕ) → length (drop start text) ≡ 0 → parts_of text ≡ with_prefix (take start text) (parts_of (drop start text)) → parts_of text ≡ None
unfolding cut_at_separator lines_of
parts_of-end text start past before = let none : drop start text ≡ [] = search (arith, common_steps) in before ∙ rw none refl
