-- A handle may go to another thread, since its pool may.
use denote.Param.Send.{IsSend, owning_send, sendable}
use Rattle.std.proofs.alloc.Global.TheSendSync as heap
use Rattle.resil_c.specs.contracts.pool.book.Book as pool
use Rattle.resil_c.specs.contracts.pool.handle.PoolHandle.{the_row, the_type}
use Rattle.resil_c.proofs.Handles.{owned_keyless}
use Rattle.resil_c.proofs.pool.book.Book.TheSendSync as known

pub send : IsSend the_row
send = owning_send the_type (search sendable, (heap.the_field_send, tt)) (λ d. owned_keyless pool.the_row known.the_send d.alloc d.at d.value) (λ k x w. tt)
