-- A plan: a chain of layers, and the script of its innermost call.
use Rattle.std.specs.Prelude.{List}
use Rattle.resil_retry.specs.declared.outcome.Outcome.{Outcome}
use Rattle.resil_decor.specs.declared.layer.Layer.{Layer}

-- the parts of a plan; the layers are listed innermost first
pub record PlanView : Type 0 where
  pub layers : List Layer
  pub script : List Outcome
