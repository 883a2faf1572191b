-- A plain load keeps the rule.
use Rattle.std.proofs.Common.{arith}
use Rattle.resil_permit.proofs.ProtocolSteps.{allows, looking}
use Rattle.resil_permit.proofs.Calls.{same_table}
use Rattle.resil_permit.proofs.Tallies.{tallied}
use Rattle.resil_permit.proofs.permits.Permits.available.Goals as goal

pub load-requires : goal.load-requires
load-requires c = (same_table _ _ _ _ c.pass.view_is c.requires c.self.view_is, omega arith, allows _ (looking _ _ _ _ c.pass.invariant.idle))

pub overflow_cast-result : goal.overflow_cast-result
overflow_cast-result c = let all = tallied _ _ c.load.ensures.2.seen.legal in omega arith
