-- It owns nothing, so threads may share it.
use denote.Param.Send.{IsSync, part_keyless}
use Rattle.resil_pool.specs.contracts.lock.plan_seen.PlanSeen.{the_row}
use Rattle.resil_pool.proofs.lock.plan_seen.PlanSeen.TheSendSync.Send.{send}

pub sync : IsSync the_row
sync = record { shared = λ d b o κ q. part_keyless the_row send q d b o }
