-- What the prover finds by itself, written down because edits that must fail open it.
use Rattle.std.proofs.Common.{rules}
use Rattle.resil_retry.proofs.config.RetryConfig.copy.Goals as goal

pub returns-clause-copied : goal.returns-clause-copied
returns-clause-copied c = search rules
