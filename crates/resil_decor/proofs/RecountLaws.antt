-- The recount of a run, layer by layer.
use Rattle.std.proofs.Common.{◌≡◌, ◌≤◌, ◌<◌, ◌+◌, ◌-◌, ◌∷◌, [], ◌++◌, ◌∙◌, ℕ, ℤ, suc, List, Option, Some, None, option_map, true, false, length, take, drop, get_or, reverse, refl, sym, ap, arith, add-one, take-suc, drop-cons}
use Rattle.std.proofs.lemmas.List.{reverse-append}
use Rattle.std.proofs.lemmas.Option.{some_pair_parts}
use Rattle.resil_retry.specs.declared.outcome.Outcome.{Outcome}
use Rattle.resil_retry.specs.Config.{RetryConfigView, again, wait_after}
use Rattle.resil_retry.specs.ErrorTest.{ErrorTestView}
use Rattle.resil_retry.specs.Retry.{CallResult, RetryResult, as_call, prepend, retried, retry_from, exhausted_outcome}
use Rattle.resil_retry.specs.Script.{first, rest}
use Rattle.resil_retry.proofs.RetryLaws.{retry_from-none, retry_from-stopped, retry_from-exhausted, retry_from-again}
use Rattle.resil_decor.specs.declared.layer.Layer.{Layer}
use Rattle.resil_decor.specs.declared.layer.Layer.TheVariants.{Retry, Bulkhead, Fallback}
use Rattle.resil_decor.specs.Chain.{Remaining, through_bulkhead, through_fallback, fallback_outcome}
use Rattle.resil_decor.specs.Grants.{held_inside, under_permit, through_within, call_at, outcome_and_rest}

-- the outcome of a retry, and what it leaves
abbrev pub answer_of : Option (RetryResult Remaining) → Option (Outcome × Remaining)
answer_of r = option_map outcome_and_rest (option_map as_call r)

-- calls and waits before a retry change neither
answer_of-prepend : (calls : ℕ) (waits : List ℕ) (r : Option (RetryResult Remaining)) → answer_of (option_map (prepend calls waits) r) ≡ answer_of r
answer_of-prepend calls waits r = grind arith

-- a call that answers has a value with this outcome, and one that doesn't has none
given_by : (call : Option (CallResult Remaining)) (o : Outcome) (left : Remaining) → Some (o, left) ≡ option_map outcome_and_rest call
    → (c : CallResult Remaining) × (call ≡ Some c) × (c.outcome ≡ o) × (c.after ≡ left)
given_by None o left h = cc
given_by (Some c) o left h = let parts = some_pair_parts o c.outcome left c.after h in (c, refl, sym parts.0, sym parts.1)

none_by : (call : Option (CallResult Remaining)) → None ≡ option_map outcome_and_rest call → call ≡ None
none_by None h = refl
none_by (Some c) h = cc

module _ (settings : RetryConfigView) (call : Remaining → Option (CallResult Remaining)) where
  pub retry_answer-none : (n k : ℕ) (s : Remaining) → None ≡ option_map outcome_and_rest (call s) → answer_of (retry_from settings call n k s) ≡ None
  retry_answer-none n k s h = ap answer_of (retry_from-none settings call n k s (none_by (call s) h))

  module _ (k : ℕ) (s left : Remaining) (o : Outcome) (h : Some (o, left) ≡ option_map outcome_and_rest (call s)) where
    pub retry_answer-stopped : (n : ℕ) → again settings o ≡ false → answer_of (retry_from settings call n k s) ≡ Some (o, left)
    retry_answer-stopped n over =
        let c = given_by (call s) o left h in
        ap answer_of (retry_from-stopped settings call n k s c.0 c.1 (rw c.2 over)) ∙ rw (c.2, c.3) refl

    pub retry_answer-exhausted : (n : ℕ) → n ≡ 0 → again settings o ≡ true → answer_of (retry_from settings call n k s) ≡ Some (exhausted_outcome settings o, left)
    retry_answer-exhausted n none_left more =
        let c = given_by (call s) o left h in
        rw none_left
        (ap answer_of (retry_from-exhausted settings call k s c.0 c.1 (rw c.2 more)) ∙ rw (c.2, c.3) refl)

    pub retry_answer-again : (last : ℕ) → k < last → again settings o ≡ true
        → answer_of (retry_from settings call (last - k) k s) ≡ answer_of (retry_from settings call (last - (k + 1)) (k + 1) left)
    retry_answer-again last before more =
        let c = given_by (call s) o left h in
        let one_more : last - k ≡ suc (last - (k + 1)) = omega arith in
        rw (one_more, retry_from-again settings call (last - (k + 1)) k s c.0 c.1 (rw c.2 more))
        (answer_of-prepend c.0.calls (c.0.waits ++ wait_after settings k ∷ []) (retry_from settings call (last - (k + 1)) (suc k) c.0.after)
        ∙ rw (c.3, add-one) refl)

-- a call through no layers
pub at_innermost : (permits : ℕ → ℕ) (layers : List Layer) (depth : ℕ) (left : Remaining) (o : Outcome) → depth ≡ 0 → first left.script ≡ Some o
    → Some (o, record { script = rest left.script; asked = left.asked }) ≡ option_map outcome_and_rest (call_at permits layers depth left)
unfolding through_within
at_innermost permits layers depth left o none given = rw (none, given) refl

-- a call through the layers of a chain, innermost first, up to one of them
module _ (permits : ℕ → ℕ) (layers : List Layer) (depth inside : ℕ) (past : Layer) (left : Remaining) (deeper : depth ≡ inside + 1) (within : depth ≤ length layers) where
  within_inside : inside < length layers
  within_inside = omega arith

  up_to : (layer : Layer) → get_or layers inside past ≡ layer → reverse (take depth layers) ≡ layer ∷ reverse (take inside layers)
  up_to layer is = rw (deeper, add-one, take-suc layers inside past within_inside, is) (reverse-append (take inside layers) (layer ∷ []))

  -- the layer is the nearest around what is inside it
  inside_layer : (layer : Layer) → get_or layers inside past ≡ layer → through_within permits (layer ∷ drop depth layers) (reverse (take inside layers)) ≡ call_at permits layers inside
  inside_layer layer is =
      let around : drop inside layers ≡ layer ∷ drop depth layers = drop-cons layers inside past within_inside ∙ rw (is, deeper, add-one) refl in
      rw (← around) refl

  pub at_retry : (settings : RetryConfigView) → get_or layers inside past ≡ Retry settings
      → call_at permits layers depth left ≡ option_map as_call (retried settings (call_at permits layers inside) left)
  unfolding through_within
  at_retry settings is = rw (up_to (Retry settings) is) (ap (λ call. option_map as_call (retried settings call left)) (inside_layer (Retry settings) is))

  pub at_bulkhead : (id : ℕ) → get_or layers inside past ≡ Bulkhead id
      → call_at permits layers depth left ≡ through_bulkhead id (under_permit (held_inside id (drop (inside + 1) layers)) (permits id) (call_at permits layers inside)) left.script left.asked
  unfolding through_within
  at_bulkhead id is =
      rw (up_to (Bulkhead id) is, ← deeper)
      (ap (λ call. through_bulkhead id (under_permit (held_inside id (drop depth layers)) (permits id) call) left.script left.asked) (inside_layer (Bulkhead id) is))

  pub at_fallback : (catch : ErrorTestView) (value : ℤ) → get_or layers inside past ≡ Fallback catch value
      → call_at permits layers depth left ≡ option_map (through_fallback catch value) (call_at permits layers inside left)
  unfolding through_within
  at_fallback catch value is = rw (up_to (Fallback catch value) is) (ap (λ call. option_map (through_fallback catch value) (call left)) (inside_layer (Fallback catch value) is))

-- a fallback around a call that answers, and around one that doesn't
pub fallback_answer : (catch : ErrorTestView) (value : ℤ) (call : Option (CallResult Remaining)) (o : Outcome) (left : Remaining) → Some (o, left) ≡ option_map outcome_and_rest call
    → Some (fallback_outcome catch value o, left) ≡ option_map outcome_and_rest (option_map (through_fallback catch value) call)
fallback_answer catch value call o left h =
    let c = given_by call o left h in
    rw (c.1, c.2, c.3) refl

pub fallback_answer-none : (catch : ErrorTestView) (value : ℤ) (call : Option (CallResult Remaining)) → None ≡ option_map outcome_and_rest call
    → None ≡ option_map outcome_and_rest (option_map (through_fallback catch value) call)
fallback_answer-none catch value call h = rw (none_by call h) refl

-- no answer of a function whose call has no value
pub no_answer : (answer : Option Outcome) (with_left : Outcome → Outcome × Remaining) (value : Option (Outcome × Remaining)) → answer ≡ None → None ≡ value → option_map with_left answer ≡ value
no_answer answer with_left value none h = rw none h
