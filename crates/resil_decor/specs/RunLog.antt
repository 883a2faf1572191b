-- What a run writes down as it goes.
use Rattle.std.specs.Prelude.{ℕ, ◌≡◌, ◌≤◌, ◌+◌, ◌*◌, ◌++◌, List, [], ◌∷◌, Some, length}
use Rattle.resil_retry.specs.declared.outcome.Outcome.{Outcome}
use Rattle.resil_decor.specs.declared.permitter.Asked.{Asked}
use Rattle.resil_decor.specs.declared.layer.Layer.{Layer}
use Rattle.resil_decor.specs.declared.layer.Layer.TheVariants.{Retry, Bulkhead, Fallback}
use Rattle.resil_decor.specs.Chain.{through}
use Rattle.resil_decor.specs.ChainLimits.{call_limit, max_calls}
use Rattle.resil_decor.specs.Permitter.{PermitterAnswers, AreAnswered}

-- the calls, waits and answers so far, and how many more waits and answers there is room for
pub record RunLogView : Type 0 where
  pub calls : ℕ
  pub waits : List ℕ
  pub wait_room : ℕ
  pub asked : List Asked
  pub asked_room : ℕ

-- one more wait was written, and nothing else
pub record IsWaitWritten (old : RunLogView) (wait : ℕ) (new : RunLogView) : Type 0 where
  pub waits : new.waits ≡ old.waits ++ wait ∷ []
  pub room : new.wait_room + 1 ≡ old.wait_room
  pub calls : new.calls ≡ old.calls
  pub asked : (new.asked ≡ old.asked) × (new.asked_room ≡ old.asked_room)

-- one more answer was written, and nothing else
pub record IsAnswerWritten (old : RunLogView) (answer : Asked) (new : RunLogView) : Type 0 where
  pub asked : new.asked ≡ old.asked ++ answer ∷ []
  pub room : new.asked_room + 1 ≡ old.asked_room
  pub calls : new.calls ≡ old.calls
  pub waits : (new.waits ≡ old.waits) × (new.wait_room ≡ old.wait_room)

-- the maximum number of questions to bulkheads in a call through layers, the outermost first: one for each attempt
-- of the retries around a bulkhead
unfoldable pub max_permit_requests : List Layer → ℕ
max_permit_requests [] = 0
max_permit_requests (Retry settings ∷ inside) = settings.max_attempts * max_permit_requests inside
max_permit_requests (Bulkhead id ∷ inside) = 1 + max_permit_requests inside
max_permit_requests (Fallback catch value ∷ inside) = max_permit_requests inside

-- there is room for everything that a call through layers may write, the outermost layer first
pub record HasRoom (layers : List Layer) (w : RunLogView) : Type 0 where
  pub some_call : 1 ≤ max_calls layers
  pub calls : w.calls + max_calls layers ≤ call_limit
  pub waits : max_calls layers ≤ w.wait_room + 1
  pub asked : max_permit_requests layers ≤ w.asked_room

-- nothing was written yet, and there is room for everything that a call through layers may write, the outermost layer first
abbrev pub IsReadyFor : List Layer → RunLogView → Type 0
IsReadyFor layers w = HasRoom layers w × (w.calls ≡ 0) × (w.waits ≡ []) × (w.asked ≡ [])

-- more answers were written, and `Holds` is true of them
pub record HasWritten (Holds : List Asked → Type 0) (old new : RunLogView) : Type 0 where
  pub more : List Asked
  pub written : new.asked ≡ old.asked ++ more
  pub holds : Holds more

-- A call through layers, the outermost first: its outcome, what it left of the script, what it wrote, and what the
-- permitter answered meanwhile. Its value doesn't depend on answers that come later.
pub record IsCallThrough (layers : List Layer) (script left : List Outcome) (before after : PermitterAnswers) (old new : RunLogView) (outcome : Outcome) : Type 0 where
  pub calls : ℕ
  pub waits : List ℕ
  pub asked : List Asked
  pub value : (later : List Asked) → through layers (record { script = script; asked = asked ++ later })
      ≡ Some (record { outcome = outcome; calls = calls; waits = waits; after = record { script = left; asked = later } })
  pub answered : AreAnswered before asked after
  pub new_calls : new.calls ≡ old.calls + calls
  pub new_waits : new.waits ≡ old.waits ++ waits
  pub new_asked : new.asked ≡ old.asked ++ asked
  pub wait_room : new.wait_room + length waits ≡ old.wait_room
  pub asked_room : new.asked_room + length asked ≡ old.asked_room
  pub few_calls : calls ≤ max_calls layers
  pub few_waits : length waits + 1 ≤ max_calls layers
  pub few_asked : length asked ≤ max_permit_requests layers
