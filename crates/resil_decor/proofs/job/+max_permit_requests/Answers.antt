use Rattle.std.proofs.Common.{arith, refl, ◌*◌, ◌≤◌}
use Rattle.std.proofs.lemmas.Nat.{mul-le}
use Rattle.std.proofs.lemmas.List.{nil_from_length}
use Rattle.resil_decor.proofs.ChainLimitLaws.{IsChain-inside, outermost_first, few_asked, max_permit_requests-none, max_permit_requests-retry, max_permit_requests-bulkhead, max_permit_requests-fallback}
use Rattle.resil_decor.proofs.job.+max_permit_requests.Goals as goal

pub returns-in_default : goal.returns-in_default
returns-in_default t c =
    let none = nil_from_length c.args.layers.now c.in_default.ensures.cases in
    rw (none, max_permit_requests-none) refl

pub max_permit_requests-asked-requires : goal.max_permit_requests-asked-requires
max_permit_requests-asked-requires t c =
    (omega (arith, c.in-Some.ensures.cases.1), IsChain-inside c.in-Some.inside.now c.in-Some.outermost.now (rw c.in-Some.ensures.cases.0 at c.requires))

pub overflow_mul-result : goal.overflow_mul-result
overflow_mul-result t c =
    let few = few_asked c.in-Some.inside.now (IsChain-inside c.in-Some.inside.now c.in-Some.outermost.now (rw c.in-Some.ensures.cases.0 at c.requires)) in
    let product : c.max_attempts.result * c.max_permit_requests-asked.result ≤ 1000 * 8000 = mul-le c.max_attempts.result c.max_permit_requests-asked.result 1000 8000 c.max_attempts.ensures.most (rw c.max_permit_requests-asked.ensures few) in
    omega (arith, product)

pub overflow_add-result : goal.overflow_add-result
overflow_add-result t c =
    let few = few_asked c.in-Some.inside.now (IsChain-inside c.in-Some.inside.now c.in-Some.outermost.now (rw c.in-Some.ensures.cases.0 at c.requires)) in
    omega (arith, few, c.max_permit_requests-asked.ensures)

pub returns-in-Retry : goal.returns-in-Retry
returns-in-Retry t c =
    let last = c.in-Some.ensures.cases in
    rw (outermost_first c.args.layers.now c.in-Some.inside.now c.in-Some.outermost.now last.0, c.in-Retry.is, max_permit_requests-retry, c.max_attempts.ensures.value, c.max_permit_requests-asked.ensures) refl

pub returns-in-Bulkhead : goal.returns-in-Bulkhead
returns-in-Bulkhead t c =
    let last = c.in-Some.ensures.cases in
    rw (outermost_first c.args.layers.now c.in-Some.inside.now c.in-Some.outermost.now last.0, c.in-Bulkhead.is, max_permit_requests-bulkhead, c.max_permit_requests-asked.ensures) refl

pub returns-in-Fallback : goal.returns-in-Fallback
returns-in-Fallback t c =
    let last = c.in-Some.ensures.cases in
    rw (outermost_first c.args.layers.now c.in-Some.inside.now c.in-Some.outermost.now last.0, c.in-Fallback.is, max_permit_requests-fallback, c.max_permit_requests-asked.ensures) refl
