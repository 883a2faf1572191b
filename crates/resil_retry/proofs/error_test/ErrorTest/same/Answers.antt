use Rattle.std.proofs.Common.{ap, refl}
use Rattle.std.proofs.lemmas.Slice.Eq.{slice_eq-Decides}
use Rattle.resil_retry.specs.ErrorTest.{ErrorTestView}
use Rattle.resil_retry.proofs.EqualityLaws.{kind_decides}
use Rattle.resil_retry.proofs.error_test.ErrorTest.same.Goals as goal

pub returns-then-eq : goal.returns-then-eq
returns-then-eq c =
    let named = slice_eq-Decides kind_decides c.self.inside.named.items c.other.inside.named.items c.eq.result c.eq.ensures in
    let ignored = slice_eq-Decides kind_decides c.self.inside.ignored.items c.other.inside.ignored.items c.eq-then-eq.result c.eq-then-eq.ensures in
    let same_named = named.0 c.if-eq.true in
    rw (← c.self.view_is, ← c.other.view_is)
    (λ r. let same_ignored = ignored.0 r in rw (same_named, same_ignored) refl, λ e. ignored.1 (ap (λ (kinds : ErrorTestView). kinds.ignored) e))

pub returns-else-eq : goal.returns-else-eq
returns-else-eq c =
    let named = slice_eq-Decides kind_decides c.self.inside.named.items c.other.inside.named.items c.eq.result c.eq.ensures in
    rw (← c.self.view_is, ← c.other.view_is)
    (λ r. let other = c.if-eq.false in cc, λ e. named.1 (ap (λ (kinds : ErrorTestView). kinds.named) e))
