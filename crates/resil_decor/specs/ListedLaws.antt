-- The laws of a permitter that answers from a list: proofs that must be in specs/, since the ghost
-- members of an `impl` may name nothing else of their own crate.
use Rattle.std.proofs.Common.{◌≡◌, ◌++◌, ◌∷◌, ◌∙◌, [], Bool, false, List, length, take, drop, refl, sym, ap, arith, append-nil, append_assoc, length-append, drop-drop, take_all}
use Rattle.std.proofs.lemmas.List.{map-append, drop_all}
use Rattle.resil_decor.specs.declared.permitter.Asked.{Asked}
use Rattle.resil_decor.specs.Listed.{ListedView, AreNextAnswers, answers_left, first_answers}

-- as many answers of a list are used up as are taken for these questions
drop_taken : (given : List Asked) (answers : List Bool) → drop (length (take (length answers) given)) answers ≡ drop (length given) answers
drop_taken [] [] = refl
drop_taken [] (y ∷ ys) = refl
drop_taken (x ∷ xs) [] = refl
drop_taken (x ∷ xs) (y ∷ ys) = drop_taken xs ys

-- answers taken for two lists, one after the other
take_both : (front back : List Asked) (answers : List Bool)
    → take (length answers) (front ++ back) ≡ take (length answers) front ++ take (length (drop (length front) answers)) back
take_both [] back [] = refl
take_both [] back (y ∷ ys) = refl
take_both (x ∷ xs) back [] = refl
take_both (x ∷ xs) back (y ∷ ys) = ap (λ l. x ∷ l) (take_both xs back ys)

-- the first answers for two lists, one after the other
first_answers_both : (front back : List Asked) (answers : List Bool)
    → first_answers (length (front ++ back)) answers ≡ first_answers (length front) answers ++ first_answers (length back) (drop (length front) answers)
first_answers_both [] back answers = refl
first_answers_both (x ∷ xs) back [] =
    ap (λ l. false ∷ l) (first_answers_both xs back [] ∙ ap (λ l. first_answers (length xs) [] ++ first_answers (length back) l) (drop_all (length xs) [] (omega arith)))
first_answers_both (x ∷ xs) back (y ∷ ys) = ap (λ l. y ∷ l) (first_answers_both xs back ys)

-- no answer
pub none_between : (l : ListedView) → AreNextAnswers l [] l
none_between l = record {
  answers = refl;
  in_order = refl;
  asked = sym (ap (λ taken. l.asked ++ taken) (take_all (length (answers_left l)) [] (omega arith)) ∙ append-nil l.asked);
}

-- what is left after some answers
left_after : (x y : ListedView) (given : List Asked) → AreNextAnswers x given y → answers_left y ≡ drop (length given) (answers_left x)
left_after x y given gave =
    rw (gave.asked, gave.answers, length-append x.asked (take (length (answers_left x)) given), ← drop-drop (length (take (length (answers_left x)) given)) (length x.asked) x.answers)
    (drop_taken given (answers_left x))

-- answers after others
pub append_between : (x y z : ListedView) (front back : List Asked) → AreNextAnswers x front y → AreNextAnswers y back z → AreNextAnswers x (front ++ back) z
append_between x y z front back gave later =
    let left = left_after x y front gave in
    record {
      answers = later.answers ∙ gave.answers;
      in_order = rw (map-append (λ (a : Asked). a.granted) front back, gave.in_order, later.in_order, left) (sym (first_answers_both front back (answers_left x)));
      asked = rw (later.asked, left, gave.asked, append_assoc x.asked (take (length (answers_left x)) front) (take (length (drop (length front) (answers_left x))) back))
          (ap (λ l. x.asked ++ l) (sym (take_both front back (answers_left x))));
    }
