use Rattle.std.proofs.Common.{◌≡◌, [], IfOk, List, string_bytes, ℕ, subst}
use Rattle.resil_page.proofs.HeadLaws.{six_in_line}
use Rattle.resil_page.proofs.head.terms_text.Goals as goal

pub returns-in-Some : goal.returns-in-Some
returns-in-Some c = rw (c.in-Some.is, ← c.flag_word-time_out.ensures, ← c.unfinished_word-unfinished.ensures) (subst (λ (l : List ℕ). IfOk c.format.result (λ t. string_bytes t ≡ l)) (six_in_line _ _ _ _ _ _) c.format.ensures.ok)

pub returns-in-None : goal.returns-in-None
returns-in-None c = rw (c.in-None.is, ← c.flag_word-time_out.ensures, ← c.unfinished_word-unfinished.ensures) (subst (λ (l : List ℕ). IfOk c.format-in-None.result (λ t. string_bytes t ≡ l)) (six_in_line _ [] _ _ _ _) c.format-in-None.ensures.ok)
