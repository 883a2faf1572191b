use Rattle.resil_heads.proofs.layers.bulkheads.configured.Goals as goal

pub loop-configuration-preserved : goal.loop-configuration-preserved
loop-configuration-preserved c = rw (c.in-Some.ensures.steps.0, c.in-Ok-add_configuration.ensures) at c.loop-configuration.invariant
