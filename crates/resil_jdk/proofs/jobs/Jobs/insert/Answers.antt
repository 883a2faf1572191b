use Rattle.std.proofs.Common.{◌∙◌, ap, not}
use Rattle.resil_rule.specs.History.{is_among}
use Rattle.resil_jdk.proofs.JobsLaws.{among-key, put-more}
use Rattle.resil_jdk.proofs.jobs.Jobs.insert.Goals as goal

pub returns-clause-added : goal.returns-clause-added
returns-clause-added c = c.in_ok-added.ensures.added ∙ ap not (among-key c.args.id c.key_of.result c.self.inside.keys.keys c.key_of.ensures ∙ ap (is_among c.args.id) c.self.view_is)

pub returns-clause-more : goal.returns-clause-more
returns-clause-more c = rw (← c.self.view_is) (put-more c.in_ok-added.added c.args.id c.key_of.result c.self.inside.keys.keys _ c.key_of.ensures c.in_ok-added.ensures.keys)
