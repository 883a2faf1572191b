-- The parts of a body with results.
use Rattle.std.proofs.Common.{◌≡◌, ◌+◌, ◌&&◌, ◌++◌, ◌∙◌, ℕ, Bool, true, false, List, [], length, take, drop, Some, None, Option, refl, sym, ap, arith, append-nil}
use Rattle.std.proofs.Math.Seq.{take-add}
use Rattle.std.proofs.lemmas.Grind.{common_steps}
use Rattle.resil_input.specs.Framing.{lines_of, with_prefix}
use Rattle.resil_input.proofs.FramingLaws.{IsLineAt, concat-lines_of, rest-drop}
use Rattle.resil_stats.specs.Results.{begins_results, cut_at_results, is_empty_line, results_of}

with_prefix-append : (a b : List ℕ) (parts : Option (List ℕ × List ℕ)) → with_prefix a (with_prefix b parts) ≡ with_prefix (a ++ b) parts
with_prefix-append a b parts = grind (arith, common_steps)

-- a text that isn't split before `start`, and the line that begins there
module _ (text line rest : List ℕ) (start : ℕ) (at : IsLineAt text start line rest)
    (before : results_of text ≡ with_prefix (take start text) (results_of (drop start text))) where
  abbrev parts : Bool
  parts = is_empty_line line && begins_results (lines_of (drop (start + length line) text))

  same : parts ≡ (is_empty_line line && begins_results (lines_of rest))
  same = ap (λ (l : List ℕ). is_empty_line line && begins_results (lines_of l)) (sym (rest-drop text line rest start at))

  -- if the line splits the text
  pub results-found : parts ≡ true → results_of text ≡ Some (take start text, drop (start + length line) text)
  unfolding cut_at_results
  results-found met =
      let here : (is_empty_line line && begins_results (lines_of rest)) ≡ true = sym same ∙ met in
      before ∙ rw (at.first, here, concat-lines_of rest) (ap (λ head. Some (head, rest)) (append-nil (take start text)))
      ∙ ap (λ (l : List ℕ). Some (take start text, l)) (rest-drop text line rest start at)

  -- if it doesn't, the parts are found in what follows it
  pub results-next : parts ≡ false → results_of text ≡ with_prefix (take (start + length line) text) (results_of (drop (start + length line) text))
  unfolding cut_at_results
  results-next other =
      let here : (is_empty_line line && begins_results (lines_of rest)) ≡ false = sym same ∙ other in
      let front : take (start + length line) text ≡ take start text ++ line = grind (arith, common_steps, at.cut, take-add start (length line) text) in
      before ∙ rw (at.first, here) (with_prefix-append (take start text) line (results_of rest) ∙ ap (λ l. with_prefix l (results_of rest)) (sym front))
      ∙ ap (λ (l : List ℕ). with_prefix (take (start + length line) text) (results_of l)) (rest-drop text line rest start at)

-- if no line is left, there are no results
pub results-end : (text : List ℕ) (start : ℕ) → length (drop start text) ≡ 0 → results_of text ≡ with_prefix (take start text) (results_of (drop start text)) → results_of text ≡ None
unfolding cut_at_results lines_of
results-end text start past before = let none : drop start text ≡ [] = search (arith, common_steps) in before ∙ rw none refl
