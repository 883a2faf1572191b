use Rattle.resil_simulate.proofs.Words.{[]}
use Rattle.resil_stats.proofs.LoadLaws.{legal-take}
use Rattle.resil_simulate.proofs.load.jobs_of.Goals as goal

pub callers_in-requires : goal.callers_in-requires
callers_in-requires c = (c.requires.legal.0, legal-take c.requires.legal.0 [] [] c.args.events.now c.args.restated c.requires.legal.1)
