use Rattle.std.proofs.Common.{◌≡◌, IfOk, List, string_bytes, ℕ, subst}
use Rattle.resil_page.proofs.HeadLaws.{three_in_line}
use Rattle.resil_page.proofs.head.sizes_text.Goals as goal

pub returns : goal.returns
returns c = subst (λ (l : List ℕ). IfOk c.format.result (λ t. string_bytes t ≡ l)) (three_in_line _ _ _) c.format.ensures.ok
