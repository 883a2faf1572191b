use Rattle.std.proofs.lemmas.List.{take-map}
use Rattle.resil_input.proofs.TableLaws.{ArePlain-take}
use Rattle.resil_replay.proofs.history.push_fields.Goals as goal

pub push-requires-clause-plain : goal.push-requires-clause-plain
push-requires-clause-plain c = rw (← take-map) (ArePlain-take c.args.columns _ c.requires.plain)

pub returns-clause-text : goal.returns-clause-text
returns-clause-text c = rw take-map c.push.ensures.text
