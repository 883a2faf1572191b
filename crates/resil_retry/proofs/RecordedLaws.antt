-- Waits that are recorded one after the other, while there is room.
use Rattle.std.proofs.Common.{◌≡◌, ◌≤◌, ◌-◌, ◌++◌, ◌∷◌, [], ℕ, zero, suc, List, length, refl, sym, ap, ◌∙◌, arith, append_assoc, append-nil, take}
use Rattle.std.specs.List.{FoldsTo}
use Rattle.std.proofs.lemmas.List.{take_all}
use Rattle.resil_retry.specs.Waits.{WaitsView, AreRecorded}

take_none : (room : ℕ) → take {A = ℕ} room [] ≡ []
take_none zero = refl
take_none (suc room) = refl

-- the first of one wait and others, by the first of each
first_of_more : (room wait : ℕ) (waits : List ℕ) → take room (wait ∷ []) ++ take (room - 1) waits ≡ take room (wait ∷ waits)
first_of_more zero wait waits =
    let none : zero - 1 ≡ zero = omega arith in ap (λ n. take n waits) none
first_of_more (suc room) wait waits =
    let one_less : suc room - 1 ≡ room = omega arith in
    ap (λ xs. wait ∷ (xs ++ take (suc room - 1) waits)) (take_none room) ∙ ap (λ n. wait ∷ take n waits) one_less

pub recorded_one_by_one : (waits : List ℕ) (old new : WaitsView) → FoldsTo (λ x wait y. AreRecorded x (wait ∷ []) y) old waits new → AreRecorded old waits new
recorded_one_by_one [] old new same = record {
  items = ap (λ (w : WaitsView). w.items) (sym same) ∙ sym (append-nil old.items) ∙ ap (λ xs. old.items ++ xs) (sym (take_none old.room));
  room = let none : old.room ≡ new.room = ap (λ (w : WaitsView). w.room) same in omega (arith, none);
}
recorded_one_by_one (wait ∷ waits) old new (next, one, more) =
    let later = recorded_one_by_one waits next new more in
    let less : next.room ≡ old.room - 1 = one.room in record {
      items = later.items ∙ ap (λ xs. xs ++ take next.room waits) one.items ∙ append_assoc old.items (take old.room (wait ∷ [])) (take next.room waits)
          ∙ ap (λ room. old.items ++ (take old.room (wait ∷ []) ++ take room waits)) less
          ∙ ap (λ xs. old.items ++ xs) (first_of_more old.room wait waits);
      room = let end = later.room in omega (arith, less, end);
    }

pub all_recorded : (waits : List ℕ) (old new : WaitsView) → AreRecorded old waits new → length waits ≤ old.room → new.items ≡ old.items ++ waits
all_recorded waits old new recorded enough = recorded.items ∙ ap (λ xs. old.items ++ xs) (take_all old.room waits enough)
