use Rattle.std.proofs.Common.{refl}
use Rattle.std.specs.Fmt.{digits}
use Rattle.resil_replay.proofs.HistoryLaws.{history_text-injective}
use Rattle.resil_replay.proofs.history.history_text_injective.Goals as goal

pub returns-clause-tells : goal.returns-clause-tells
returns-clause-tells c = history_text-injective

pub returns-clause-example : goal.returns-clause-example
unfolding digits
returns-clause-example c = refl

pub returns-clause-resized : goal.returns-clause-resized
unfolding digits
returns-clause-resized c = refl
