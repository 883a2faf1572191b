-- Refused by one search where the edit of the cap opens them.
use Rattle.std.proofs.Common.{rules}
use Rattle.resil_retry.proofs.interval.Interval.exponential.Goals as goal

pub returns-then-cap-initial-clause-made : goal.returns-then-cap-initial-clause-made
returns-then-cap-initial-clause-made c = search rules

pub returns-then-cap-initial-clause-cap_below_initial : goal.returns-then-cap-initial-clause-cap_below_initial
returns-then-cap-initial-clause-cap_below_initial c = search rules
