use Rattle.resil_replay.proofs.Words.{rules, parse_event, history_header}
use Rattle.resil_replay.proofs.VersionLaws.{version-read}
use Rattle.resil_replay.proofs.events.read_opened.Goals as goal

pub returns : goal.returns
returns c = λ body is.
    version-read history_header parse_event body c.args.opened is c.requires.version.0 c.requires.version.1 (λ read. read.items) c.rows.result
    (c.rows.ensures body parse_event is (λ fields answer called wide. search rules))
