-- Texts to which pieces are added.
use Rattle.std.proofs.Common.{◌≡◌, ◌<◌, ◌+◌, ◌∷◌, [], ◌++◌, ◌∙◌, ℕ, List, length, take, get_or, refl, sym, ap, subst, append_assoc, append-nil}
use Rattle.std.proofs.lemmas.List.{take_more}
use Rattle.resil_stats.specs.declared.picture.Picture.{Picture}
use Rattle.resil_stats.specs.Svg.{IsAddition, IsEachDrawn, IsGatheredDrawn, IsMadeOf, bar_opening, column_opening, mark_opening}

-- a text with one more piece
piece-push : {A : Type 0} (begins : A → List ℕ) (xs : List A) (x : A) (text look : List ℕ) → IsMadeOf begins xs text → IsMadeOf begins (xs ++ x ∷ []) (text ++ (begins x ++ look))
piece-push begins [] x text look is = (look, [], ap (λ (l : List ℕ). l ++ (begins x ++ look)) is ∙ ap (λ (l : List ℕ). begins x ++ l) (sym (append-nil look)), refl)
piece-push begins (y ∷ ys) x text look (own, rest, is, made) = (
  own,
  rest ++ (begins x ++ look),
  ap (λ (l : List ℕ). l ++ (begins x ++ look)) is ∙ append_assoc (begins y) (own ++ rest) (begins x ++ look) ∙ ap (λ (l : List ℕ). begins y ++ l) (append_assoc own rest (begins x ++ look)),
  piece-push begins ys x rest look made,
)

-- a text that goes one thing further, by its element
pub made-more : {A : Type 0} (begins : A → List ℕ) (xs : List A) (i : ℕ) (x : A) (start old new : List ℕ) → i < length xs → x ≡ get_or xs i x → IsAddition (IsMadeOf begins (take i xs)) start old
    → (look : List ℕ) × (new ≡ old ++ (begins x ++ look)) → IsAddition (IsMadeOf begins (take (i + 1) xs)) start new
made-more begins xs i x start old new lt same (text, at, made) (look, is) = (
  text ++ (begins x ++ look),
  rw (is, at) (simp append_assoc),
  subst (λ l. IsMadeOf begins l (text ++ (begins x ++ look))) (sym (take_more xs i x lt))
      (subst (λ y. IsMadeOf begins (take i xs ++ y ∷ []) (text ++ (begins x ++ look))) same (piece-push begins (take i xs) x text look made)),
)

-- the parts of a chart of which each event is drawn
pub each-drawn : (picture : Picture) (a b c d e f : List ℕ) → (part : List ℕ) × (b ≡ a ++ part) → IsAddition (IsMadeOf bar_opening picture.drawn.bars.items) b c → (part : List ℕ) × (d ≡ c ++ part)
    → IsAddition (IsMadeOf mark_opening picture.marks.items) d e → (part : List ℕ) × (f ≡ e ++ part) → IsAddition (IsEachDrawn picture) a f
each-drawn picture a b c d e f (front, at_front) (bars, at_bars, of_bars) (middle, at_middle) (refusals, at_refusals, of_marks) (back, at_back) = (
  front ++ (bars ++ (middle ++ (refusals ++ back))),
  rw (at_back, at_refusals, at_middle, at_bars, at_front) (simp append_assoc),
  record { front = front; bars = bars; middle = middle; refusals = refusals; back = back; whole = refl; of_bars = of_bars; of_marks = of_marks },
)

-- the parts of a gathered chart
pub gathered-drawn : (picture : Picture) (a b c d : List ℕ) → (part : List ℕ) × (b ≡ a ++ part) → IsAddition (IsMadeOf column_opening picture.drawn.columns.items) b c → (part : List ℕ) × (d ≡ c ++ part)
    → IsAddition (IsGatheredDrawn picture) a d
gathered-drawn picture a b c d (front, at_front) (columns, at_columns, of_columns) (back, at_back) = (
  front ++ (columns ++ back),
  rw (at_back, at_columns, at_front) (simp append_assoc),
  record { front = front; columns = columns; back = back; whole = refl; of_columns = of_columns },
)
