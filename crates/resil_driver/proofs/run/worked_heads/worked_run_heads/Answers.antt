use Rattle.std.proofs.Common.{rules}
use Rattle.std.specs.Str.{chars, is_utf8}
use Rattle.toml.proofs.OnLiterals.{toml_on_literals}
use Rattle.resil_decor.specs.ChainLimits.{max_calls}
use Rattle.resil_heads.specs.LayerValues.{parse_bulkhead, parse_error_test, parse_retry}
use Rattle.resil_heads.specs.Layers.{build_chain, parse_chain}
use Rattle.resil_driver.specs.Run.Head.{parse_run}
use Rattle.resil_heads.specs.Sizes.{parse_limits}
use Rattle.resil_driver.proofs.run.worked_heads.worked_run_heads.Goals as goal

pub returns : goal.returns
unfolding toml_on_literals chars is_utf8 max_calls parse_bulkhead parse_error_test parse_retry build_chain parse_chain parse_run parse_limits
returns c = search rules
