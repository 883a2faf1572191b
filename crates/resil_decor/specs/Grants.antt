-- Whether bulkheads have as many permits as a run held of them at once (Resilience4j user guide,
-- Bulkhead, `maxConcurrentCalls`).
use Rattle.std.specs.Prelude.{ℕ, ◌≡◌, ◌==◌, Bool, false, List, [], ◌∷◌, Option, None, IsSomeAnd, option_map, if◌then◌else◌, nat_lt, count_by, slice_get, reverse, take, drop}
use Rattle.std.specs.Option.{option_map_or}
use Rattle.resil_bulkhead.specs.Bulkhead.{BulkheadView}
use Rattle.resil_retry.specs.declared.outcome.Outcome.{Outcome}
use Rattle.resil_retry.specs.Retry.{CallResult, as_call, retried}
use Rattle.resil_decor.specs.declared.layer.Layer.{Layer}
use Rattle.resil_decor.specs.declared.layer.Layer.TheVariants.{Retry, Bulkhead, Fallback}
use Rattle.resil_decor.specs.Chain.{Remaining, innermost, through_bulkhead, through_fallback}
use Rattle.resil_decor.specs.Run.{RunView}

-- how many permits the bulkhead with this id, which is its index, has; 0 if there is none
abbrev pub permits_of : List BulkheadView → ℕ → ℕ
permits_of bulkheads id = option_map_or (λ bulkhead. bulkhead.permits.max) (slice_get bulkheads id) 0

-- whether a layer is the bulkhead with this id
abbrev pub is_bulkhead : ℕ → Layer → Bool
is_bulkhead id (Retry settings) = false
is_bulkhead id (Bulkhead other) = other == id
is_bulkhead id (Fallback catch value) = false

-- how many permits of a bulkhead a call inside these layers holds: one for each layer that is the
-- bulkhead
abbrev pub held_inside : ℕ → List Layer → ℕ
held_inside id layers = count_by (is_bulkhead id) layers

-- a call under one more permit than are held, of a bulkhead with this many; None if all of them are held
abbrev pub under_permit : ℕ → ℕ → (Remaining → Option (CallResult Remaining)) → Remaining → Option (CallResult Remaining)
under_permit held permits call left = if nat_lt held permits then call left else None

-- The call of a function through layers, the outermost first, inside the layers around them, the
-- nearest first. It holds the permits of these. It is the call `through` the layers, but also None
-- if a bulkhead granted a permit and the layers around it already held all that it has.
unfoldable pub through_within : (ℕ → ℕ) → List Layer → List Layer → Remaining → Option (CallResult Remaining)
through_within permits around [] left = innermost left
through_within permits around (Retry settings ∷ inside) left =
    option_map as_call (retried settings (through_within permits (Retry settings ∷ around) inside) left)
through_within permits around (Bulkhead id ∷ inside) left =
    through_bulkhead id (under_permit (held_inside id around) (permits id) (through_within permits (Bulkhead id ∷ around) inside)) left.script left.asked
through_within permits around (Fallback catch value ∷ inside) left =
    option_map (through_fallback catch value) (through_within permits (Fallback catch value ∷ around) inside left)

-- the call through this many of the innermost layers of a chain, inside its other layers; the chain
-- is listed innermost first
abbrev pub call_at : (ℕ → ℕ) → List Layer → ℕ → Remaining → Option (CallResult Remaining)
call_at permits layers depth left = through_within permits (drop depth layers) (reverse (take depth layers)) left

-- the outcome of a call, and what it leaves
abbrev pub outcome_and_rest : CallResult Remaining → Outcome × Remaining
outcome_and_rest c = (c.outcome, c.after)

-- The run never held more permits of one of these bulkheads at once than that has: outcome, calls
-- and waits are those of the plan's chain for these answers within the permits, and no answer is
-- left over.
abbrev pub IsWithin : List BulkheadView → RunView → Type 0
IsWithin bulkheads r = IsSomeAnd (through_within (permits_of bulkheads) [] (reverse r.plan.layers) (record { script = r.plan.script; asked = r.asked }))
    (λ c. (c.outcome ≡ r.outcome) × (c.calls ≡ r.calls) × (c.waits ≡ r.waits) × (c.after.asked ≡ []))
