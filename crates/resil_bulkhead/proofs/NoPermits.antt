-- If there are no permits, none is ever free, so no try takes one and none is contended.
use Rattle.std.proofs.Common.{◌≡◌, ◌≢◌, ℕ, ◌<◌, List, [], ◌∷◌, length, ap, sym, ◌∙◌, subst, arith}
use mathlib.Core.List.{IsPrefix}
use Rattle.resil_permit.specs.declared.event.PermitEvent.{PermitEvent}
use Rattle.resil_permit.specs.declared.event.PermitEvent.TheVariants.{Took}
use Rattle.resil_permit.specs.declared.permits.Attempt.TheVariants.{Taken, Contended}
use Rattle.resil_permit.specs.History.{holders, in_use_count, free_count, IsLegal}
use Rattle.resil_permit.specs.Passes.{Source, PassView}
use Rattle.resil_permit.specs.TryAcquire.{IsTry}
use Rattle.resil_permit.proofs.Histories.{IsLegal-prefix}
use Rattle.resil_permit.proofs.Tallies.{in_use}

-- no prefix of a legal history leaves a permit free
none_free : (prefix whole : List PermitEvent) → IsLegal 0 whole → IsPrefix prefix whole → free_count 0 prefix ≡ 0
none_free prefix whole legal begins =
    let all = in_use 0 prefix (IsLegal-prefix 0 prefix begins.0 (subst (λ events. IsLegal 0 events) (sym begins.1) legal)) in omega arith

pub never_taken : (p q : PassView) (source : Source) → p.source ≡ source → source.max ≡ 0 → IsTry p q Taken → ⊥
never_taken p q source from none took =
    let zero = ap (λ (s : Source). s.max) from ∙ none in
    let legal = subst (λ max. IsLegal max q.seen) zero took.legal in
    let all = in_use 0 took.before (IsLegal-prefix 0 took.before (Took p.number ∷ []) (subst (λ events. IsLegal 0 events) took.ends legal)) in
    let fewer = subst (λ (max : ℕ). length (holders took.before) < in_use_count max took.before) zero took.there in omega arith

pub never_contended : (p q : PassView) (source : Source) → p.source ≡ source → source.max ≡ 0 → IsTry p q Contended → ⊥
never_contended p q source from none (more, changed) =
    let zero = ap (λ (s : Source). s.max) from ∙ none in
    let legal = subst (λ max. IsLegal max q.seen) zero more.legal in
    let (first, second, one, other, _, _, differ) = changed in
    let differ' = subst (λ (max : ℕ). free_count max first ≢ free_count max second) zero differ in
    differ' (none_free first q.seen legal one ∙ sym (none_free second q.seen legal other))
