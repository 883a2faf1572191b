-- A handle may go to another thread, since its pass may.
use denote.Param.Send.{IsSend, owning_send, sendable}
use Rattle.std.proofs.alloc.Global.TheSendSync as heap
use Rattle.resil_c.specs.contracts.permit.owned_pass.OwnedPass as pass
use Rattle.resil_c.specs.contracts.permit.handle.PermitHandle.{the_row, the_type}
use Rattle.resil_c.proofs.Handles.{owned_keyless}
use Rattle.resil_c.proofs.permit.owned_pass.OwnedPass.TheSendSync as known

pub send : IsSend the_row
send = owning_send the_type (search sendable, (heap.the_field_send, tt)) (λ d. owned_keyless pass.the_row known.the_send d.alloc d.at d.value) (λ k x w. tt)
