use Rattle.std.proofs.Common.{rules}
use Rattle.std.specs.Str.{chars, is_utf8}
use Rattle.toml.proofs.OnLiterals.{toml_on_literals}
use Rattle.resil_weave.proofs.worked_heads.worked_weave_heads.Goals as goal

pub returns : goal.returns
unfolding toml_on_literals chars is_utf8
returns c = search rules
