use Rattle.resil_look.proofs.look.output_for.Goals as goal

pub returns-in-Some-clause-output : goal.returns-in-Some-clause-output
returns-in-Some-clause-output g c = rw (← c.in-Some.ensures) c.read_output.ensures.output

pub returns-in-Some-clause-taken : goal.returns-in-Some-clause-taken
returns-in-Some-clause-taken g c = rw (← c.in-Some.ensures) c.read_output.ensures.taken
