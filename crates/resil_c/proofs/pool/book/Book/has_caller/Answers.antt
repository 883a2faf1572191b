-- What the prover finds by itself, written down because edits that must fail open it.
use Rattle.std.proofs.Common.{rules}
use Rattle.resil_c.proofs.pool.book.Book.has_caller.Goals as goal

pub returns-then-caller-ne0 : goal.returns-then-caller-ne0
returns-then-caller-ne0 c = search rules
