use Rattle.resil_layers.proofs.retried_observed.RetriedObservedCall.call.Goals as goal

pub on_end-requires : goal.on_end-requires
on_end-requires g c = (c.retry_within-tried.ensures.room (λ n. (c.requires.3 n, c.requires.5)) 0).1
