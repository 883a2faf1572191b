-- A permitter that answers from a list, for any id.
use Rattle.std.specs.Prelude.{ℕ, zero, suc, ◌≡◌, ◌==◌, ◌≤◌, ◌++◌, ◌∷◌, [], Bool, false, List, length, take, drop, map, filter, if◌then◌else◌, nat_lt, get_or, vec_len, vec_capacity}
use Rattle.resil_decor.specs.declared.permitter.Asked.{Asked}
use Rattle.resil_decor.specs.Permitter.{PermitterAnswers}
use Rattle.resil_decor.specs.declared.listed.Listed.TheInside.{Inside}

-- the list, the questions so far with their answers, and the id of each permit that is held
pub record ListedView : Type 0 where
  pub answers : List Bool
  pub asked : List Asked
  pub held : List ℕ

-- the answers that were given for an id
abbrev pub answers_for : List Asked → ℕ → List Bool
answers_for asked id = map (λ a. a.granted) (filter (λ a. a.id == id) asked)

-- any id is known while an answer is left, and none after that
abbrev pub answers_of : ListedView → PermitterAnswers
answers_of l = record {
  known = if nat_lt (length l.asked) (length l.answers) then 65536 else 0;
  given = answers_for l.asked;
}

-- how many permits of an id are held
abbrev pub held_of : ListedView → ℕ → ℕ
held_of l id = length (filter (λ other. other == id) l.held)

-- the next answer of the list, and no after its end
abbrev pub is_next_answer : ListedView → Bool → Type 0
is_next_answer l answer = answer ≡ get_or l.answers (length l.asked) false

-- this number of answers from the beginning of a list, and no for each after its end
abbrev pub first_answers : ℕ → List Bool → List Bool
first_answers zero answers = []
first_answers (suc count) [] = false ∷ first_answers count []
first_answers (suc count) (answer ∷ answers) = answer ∷ first_answers count answers

-- the answers of the list that are still to be given
abbrev pub answers_left : ListedView → List Bool
answers_left l = drop (length l.asked) l.answers

-- These answers were given one after the other: they are the next ones of the list, and no after its
-- end. The list stays as it is, and each question is kept with its answer as long as the list has one.
pub record AreNextAnswers (old : ListedView) (given : List Asked) (new : ListedView) : Type 0 where
  pub answers : new.answers ≡ old.answers
  pub in_order : map (λ a. a.granted) given ≡ first_answers (length given) (answers_left old)
  pub asked : new.asked ≡ old.asked ++ take (length (answers_left old)) given

-- the answers were given in the order of the list, and there is room for those to come
pub record ListedInvariant (l : Inside) : Type 0 where
  pub in_order : map (λ a. a.granted) l.asked.items ≡ take (length l.asked.items) l.answers.items
  pub few_asked : vec_len l.asked ≤ vec_len l.answers
  pub few_held : vec_len l.held ≤ vec_len l.asked
  pub asked_room : vec_len l.answers ≤ vec_capacity l.asked
  pub held_room : vec_len l.answers ≤ vec_capacity l.held
