use Rattle.std.proofs.Common.{◌∙◌, ap}
use Rattle.resil_rule.specs.History.{is_among}
use Rattle.resil_jdk.proofs.JobsLaws.{among-key}
use Rattle.resil_jdk.proofs.jobs.Jobs.contains.Goals as goal

pub returns : goal.returns
returns c = c.contains.ensures ∙ among-key c.args.id c.key_of.result c.self.inside.keys.keys c.key_of.ensures ∙ ap (is_among c.args.id) c.self.view_is
