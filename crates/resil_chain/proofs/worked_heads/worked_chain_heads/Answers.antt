use Rattle.std.proofs.Common.{rules}
use Rattle.std.specs.Str.{chars, is_utf8}
use Rattle.toml.proofs.OnLiterals.{toml_on_literals}
use Rattle.resil_decor.specs.ChainLimits.{max_calls}
use Rattle.resil_chain.specs.Head.{chain_in}
use Rattle.resil_heads.specs.LayerValues.{parse_bulkhead, parse_error_test, parse_fallback, parse_retry, waits_from}
use Rattle.resil_heads.specs.Layers.{build_chain, parse_chain}
use Rattle.resil_chain.proofs.worked_heads.worked_chain_heads.Goals as goal

pub returns : goal.returns
unfolding toml_on_literals chars is_utf8 max_calls chain_in parse_bulkhead parse_error_test parse_fallback parse_retry waits_from build_chain parse_chain
returns c = search rules
