-- The limits of what a run through layers does.
use Rattle.std.proofs.Common.{◌≡◌, ◌≤◌, ◌+◌, ◌*◌, ◌∷◌, [], ◌++◌, ◌∙◌, ℕ, ℤ, zero, suc, List, length, reverse, refl, ap, arith, length-append}
use Rattle.std.proofs.lemmas.List.{reverse-append, length-reverse}
use Rattle.std.proofs.Math.Nat.{mul_comm, mul_assoc, mul-le-mul_left}
use Rattle.std.proofs.lemmas.Nat.{mul-le}
use Rattle.resil_retry.specs.Config.{RetryConfigView}
use Rattle.resil_retry.specs.ErrorTest.{ErrorTestView}
use Rattle.resil_decor.specs.declared.layer.Layer.{Layer}
use Rattle.resil_decor.specs.declared.layer.Layer.TheVariants.{Retry, Bulkhead, Fallback}
use Rattle.resil_decor.specs.ChainLimits.{attempts_of, max_calls, IsChain}
use Rattle.resil_decor.specs.RunLog.{max_permit_requests}

-- a product of at least 1 has factors of at least 1
pub right_factor : (a b : ℕ) → 1 ≤ a * b → 1 ≤ b
right_factor a zero h = absurd (omega (arith, h))
right_factor a (suc b) h = omega arith

pub left_factor : (a b : ℕ) → 1 ≤ a * b → 1 ≤ a
left_factor zero b h = absurd (omega (arith, h))
left_factor (suc a) b h = omega arith

-- a factor of at least 1 makes no number smaller
pub factor-le : (a b : ℕ) → 1 ≤ a → b ≤ a * b
factor-le (suc a) b h = omega arith
factor-le zero b h = absurd (omega (arith, h))

-- layers around others
pub max_calls-cons : (layer : Layer) (layers : List Layer) → max_calls (layer ∷ layers) ≡ attempts_of layer * max_calls layers
unfolding max_calls
max_calls-cons layer layers = refl

pub max_calls-none : max_calls [] ≡ 1
unfolding max_calls
max_calls-none = refl

pub max_calls-last : (layers : List Layer) (layer : Layer) → max_calls (layers ++ layer ∷ []) ≡ attempts_of layer * max_calls layers
unfolding max_calls
max_calls-last [] layer = refl
max_calls-last (x ∷ xs) layer =
    rw (max_calls-last xs layer, ← mul_assoc (attempts_of x) (attempts_of layer) (max_calls xs), mul_comm (attempts_of x) (attempts_of layer))
    (mul_assoc (attempts_of layer) (attempts_of x) (max_calls xs))

-- the order of the layers doesn't matter
pub max_calls-reverse : (layers : List Layer) → max_calls (reverse layers) ≡ max_calls layers
unfolding max_calls
max_calls-reverse [] = refl
max_calls-reverse (x ∷ xs) =
    ap max_calls (reverse-append (x ∷ []) xs) ∙ max_calls-last (reverse xs) x ∙ rw (max_calls-reverse xs) refl

-- a bulkhead gets at most as many requests as there are calls
pub max_permit_requests-le : (layers : List Layer) → 1 ≤ max_calls layers → max_permit_requests layers ≤ length layers * max_calls layers
unfolding max_calls max_permit_requests
max_permit_requests-le [] h = omega arith
max_permit_requests-le (Retry settings ∷ inside) h =
    let inner = max_permit_requests-le inside (right_factor settings.max_attempts (max_calls inside) h) in
    let wider : settings.max_attempts * max_permit_requests inside ≤ settings.max_attempts * (length inside * max_calls inside) = mul-le-mul_left settings.max_attempts inner in
    omega (arith, wider)
max_permit_requests-le (Bulkhead id ∷ inside) h =
    let inner = max_permit_requests-le inside (omega (arith, h)) in
    omega (arith, inner, h)
max_permit_requests-le (Fallback catch value ∷ inside) h =
    let inner = max_permit_requests-le inside (omega (arith, h)) in
    omega (arith, inner, h)

-- the layers inside the outermost one of a chain are a chain
pub IsChain-inside : (layers : List Layer) (layer : Layer) → IsChain (layers ++ layer ∷ []) → IsChain layers
IsChain-inside layers layer chain =
    let product = max_calls-last layers layer in
    let some : 1 ≤ attempts_of layer * max_calls layers = rw product at chain.some_call in
    let one = left_factor (attempts_of layer) (max_calls layers) some in
    let fewer = factor-le (attempts_of layer) (max_calls layers) one in
    record {
      few_layers = omega (arith, chain.few_layers, length-append layers (layer ∷ []));
      few_calls = omega (arith, chain.few_calls, product, fewer);
      some_call = right_factor (attempts_of layer) (max_calls layers) some;
    }

-- the outermost layer is the last of a chain, and the first of the chain reversed
pub outermost_first : (layers inside : List Layer) (layer : Layer) → layers ≡ inside ++ layer ∷ [] → reverse layers ≡ layer ∷ reverse inside
outermost_first layers inside layer h = ap reverse h ∙ reverse-append inside (layer ∷ [])

pub max_permit_requests-none : max_permit_requests [] ≡ 0
unfolding max_permit_requests
max_permit_requests-none = refl

pub max_permit_requests-retry : (settings : RetryConfigView) (inside : List Layer) → max_permit_requests (Retry settings ∷ inside) ≡ settings.max_attempts * max_permit_requests inside
unfolding max_permit_requests
max_permit_requests-retry settings inside = refl

pub max_permit_requests-bulkhead : (id : ℕ) (inside : List Layer) → max_permit_requests (Bulkhead id ∷ inside) ≡ 1 + max_permit_requests inside
unfolding max_permit_requests
max_permit_requests-bulkhead id inside = refl

pub max_permit_requests-fallback : (catch : ErrorTestView) (value : ℤ) (inside : List Layer) → max_permit_requests (Fallback catch value ∷ inside) ≡ max_permit_requests inside
unfolding max_permit_requests
max_permit_requests-fallback catch value inside = refl

-- so bulkheads get few requests through a chain
pub few_asked : (layers : List Layer) → IsChain layers → max_permit_requests (reverse layers) ≤ 8000
few_asked layers chain =
    let same = max_calls-reverse layers in
    let bound = max_permit_requests-le (reverse layers) (rw same chain.some_call) in
    let few : length (reverse layers) * max_calls (reverse layers) ≤ 8 * 1000 = mul-le (length (reverse layers)) (max_calls (reverse layers)) 8 1000 (rw (length-reverse layers) chain.few_layers) (rw same chain.few_calls) in
    omega (arith, bound, few)
