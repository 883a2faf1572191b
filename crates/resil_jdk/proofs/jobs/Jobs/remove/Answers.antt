use Rattle.std.proofs.Common.{◌∙◌, ap}
use Rattle.resil_rule.specs.History.{is_among}
use Rattle.resil_jdk.proofs.JobsLaws.{among-key, took-out}
use Rattle.resil_jdk.proofs.jobs.Jobs.remove.Goals as goal

pub returns-clause-had : goal.returns-clause-had
returns-clause-had c = c.remove.ensures.test ∙ among-key c.args.id c.key_of.result c.self.inside.keys.keys c.key_of.ensures ∙ ap (is_among c.args.id) c.self.view_is

pub returns-clause-less : goal.returns-clause-less
returns-clause-less c =
    let had = c.remove.ensures.test ∙ among-key c.args.id c.key_of.result c.self.inside.keys.keys c.key_of.ensures in
    rw (← c.self.view_is) (took-out c.remove.result c.args.id c.key_of.result c.self.inside.keys.keys _ c.key_of.ensures had c.remove.ensures.keys)
