use Rattle.std.proofs.lemmas.Option.{IfSome_then}
use Rattle.resil_look.proofs.look.read_output.Goals as goal

pub returns-after-input-clause-output : goal.returns-after-input-clause-output
returns-after-input-clause-output g c = IfSome_then _ (rw c.limit_of.ensures at c.in-Ok.ensures.input) (λ bytes read. c.request_output-output.ensures bytes read)
