use Rattle.std.proofs.Common.{◌≡◌, IfOk, List, string_bytes, ℕ, subst}
use Rattle.resil_simulate.proofs.TableLaws.{in_line}
use Rattle.resil_simulate.proofs.table.pool_text.Goals as goal

pub returns : goal.returns
returns c =
    let made = rw (c.in_ok-sizes.ensures, c.in_ok-median.ensures, c.in_ok-p99.ensures, c.in_ok-most.ensures, c.in_ok-busy.ensures) at c.format.ensures.ok in
    subst (λ (l : List ℕ). IfOk c.format.result (λ t. string_bytes t ≡ l)) (in_line c.args.sizes _ _ _ _ _ _ _ _) made
