use Rattle.std.proofs.Common.{refl, inl, inr, Err}
use Rattle.std.proofs.lemmas.Fn.{says_at}
use Rattle.resil_layers.proofs.fallback.FallbackCall.call.Goals as goal

pub returns-then-names-clause-answer : goal.returns-then-names-clause-answer
returns-then-names-clause-answer g c = (Err c.in-Err.error, c.in-Err.ensures.answer, refl, inl (says_at _ c.names.ensures c.if-names.true, c.value.ensures))

pub returns-else-names-clause-answer : goal.returns-else-names-clause-answer
returns-else-names-clause-answer g c = (Err c.in-Err.error, c.in-Err.ensures.answer, refl, inr (says_at _ c.names.ensures c.if-names.false, refl, refl))
