-- The value of a run within the permits of its bulkheads is that of its chain.
use Rattle.std.proofs.Common.{◌≡◌, ◌-◌, reverse, ◌∷◌, [], ◌++◌, refl, ℕ, zero, suc, Bool, true, false, List, Option, Some, None, option_map, option_and_then, if◌then◌else◌, nat_lt, ◌==◌}
use Rattle.std.specs.Prelude.{◌↔◌, IsSome, IsSomeAnd}
use Rattle.resil_bulkhead.specs.Bulkhead.{BulkheadView}
use Rattle.resil_retry.specs.Config.{RetryConfigView, again, wait_after}
use Rattle.resil_retry.specs.Retry.{CallResult, as_call, last_attempt, prepend, retry_from}
use Rattle.resil_retry.specs.declared.outcome.Outcome.{Outcome}
use Rattle.resil_decor.specs.declared.permitter.Asked.{Asked}
use Rattle.resil_decor.specs.declared.layer.Layer.{Layer}
use Rattle.resil_decor.specs.declared.layer.Layer.TheVariants.{Retry, Bulkhead, Fallback}
use Rattle.resil_decor.specs.Chain.{Remaining, through, through_bulkhead, through_fallback}
use Rattle.resil_decor.specs.Run.{RunView, IsValue}
use Rattle.resil_decor.specs.Grants.{permits_of, held_inside, through_within, IsWithin}

-- where the first option has a value, the second has the same
abbrev Gives : {A : Type 0} → Option A → Option A → Type 0
Gives {A} x y = (a : A) → x ≡ Some a → y ≡ Some a

map_gives : {A B : Type 0} (f : A → B) (x y : Option A) → Gives x y → Gives (option_map f x) (option_map f y)
map_gives f None y gives b h = cc
map_gives f (Some a) y gives b h = rw (gives a refl) h

and_then_gives : {A B : Type 0} (f g : A → Option B) (x y : Option A) → Gives x y → ((a : A) → Gives (f a) (g a)) → Gives (option_and_then f x) (option_and_then g y)
and_then_gives f g None y gives each b h = cc
and_then_gives f g (Some a) y gives each b h = rw (gives a refl) (each a b h)

if_gives : {A : Type 0} (test : Bool) (x y other : Option A) → Gives x y → Gives (if test then x else other) (if test then y else other)
if_gives true x y other gives a h = gives a h
if_gives false x y other gives a h = h

-- a call that has a value only where its test holds
if_true_gives : {A : Type 0} (test : Bool) (x y : Option A) → Gives x y → Gives (if test then x else None) y
if_true_gives true x y gives a h = gives a h
if_true_gives false x y gives a h = cc

-- a retry of a call that has the value of another
retry_gives : {S : Type 0} (settings : RetryConfigView) (call other : S → Option (CallResult S)) → ((s : S) → Gives (call s) (other s))
    → (left k : ℕ) (s : S) → Gives (retry_from settings call left k s) (retry_from settings other left k s)
unfolding retry_from
retry_gives settings call other gives zero k s = map_gives (last_attempt settings k) (call s) (other s) (gives s)
retry_gives settings call other gives (suc left) k s =
    and_then_gives _ _ (call s) (other s) (gives s)
    (λ c. if_gives (again settings c.outcome) _ _ _
    (map_gives (prepend c.calls (c.waits ++ wait_after settings k ∷ [])) _ _ (retry_gives settings call other gives left (suc k) c.after)))

-- a bulkhead around a call that has the value of another
bulkhead_gives : (id : ℕ) (call other : Remaining → Option (CallResult Remaining)) → ((left : Remaining) → Gives (call left) (other left))
    → (script : List Outcome) (asked : List Asked) → Gives (through_bulkhead id call script asked) (through_bulkhead id other script asked)
bulkhead_gives id call other gives script [] c h = h
bulkhead_gives id call other gives script (answer ∷ answers) c h =
    if_gives (answer.id == id) _ _ None (if_gives answer.granted _ _ _ (gives (record { script = script; asked = answers }))) c h

-- the call through layers within the permits of their bulkheads has the value of the call through
-- the layers
pub through_within-through : (permits : ℕ → ℕ) (layers around : List Layer) (left : Remaining)
    → Gives (through_within permits around layers left) (through layers left)
unfolding through through_within
through_within-through permits [] around left c h = h
through_within-through permits (Retry settings ∷ inside) around left c h =
    map_gives as_call _ _ (retry_gives settings _ _ (through_within-through permits inside (Retry settings ∷ around)) (settings.max_attempts - 1) 1 left) c h
through_within-through permits (Bulkhead id ∷ inside) around left c h =
    bulkhead_gives id _ _
    (λ later. if_true_gives (nat_lt (held_inside id around) (permits id)) _ _ (through_within-through permits inside (Bulkhead id ∷ around) later))
    left.script left.asked c h
through_within-through permits (Fallback catch value ∷ inside) around left c h =
    map_gives (through_fallback catch value) _ _ (through_within-through permits inside (Fallback catch value ∷ around) left) c h

-- a run whose call has a value within the permits has its own there
value_within : {A : Type 0} (x y : Option A) (P : A → Type 0) → Gives x y → IsSomeAnd y P → IsSome x ↔ IsSomeAnd x P
value_within None y P gives value = (λ some. let no : false ≡ true = some in absurd (cc), λ none. absurd none)
value_within (Some a) y P gives value = (λ some. rw (gives a refl) at value, λ holds. refl)

pub some_within : (bulkheads : List BulkheadView) (r : RunView) → IsValue r
    → IsSome (through_within (permits_of bulkheads) [] (reverse r.plan.layers) (record { script = r.plan.script; asked = r.asked })) ↔ IsWithin bulkheads r
some_within bulkheads r value =
    value_within _ _ (λ c. (c.outcome ≡ r.outcome) × (c.calls ≡ r.calls) × (c.waits ≡ r.waits) × (c.after.asked ≡ []))
    (through_within-through (permits_of bulkheads) (reverse r.plan.layers) [] (record { script = r.plan.script; asked = r.asked })) value
