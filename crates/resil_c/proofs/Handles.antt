-- What a handle owns may go to another thread if the value may: any thread may free its block.
use mir.Raw.{raw}
use base.Fraction.{full_share}
use base.Shift.{Keyless}
use denote.Memory.{lone}
use denote.Param.Send.{IsSend, part_keyless}
use denote.RattleType.{RattleType}
use denote.RawPtr.{Ptr, block_ptr, null_ptr}
use Rattle.std.specs.Prelude.{Option, Some, None}
use Rattle.std.specs.declared.alloc.Global.{Global}
use Rattle.std.proofs.Crossing.{frees}
use Rattle.resil_c.specs.Handles.{handle_owns}

pub owned_keyless : (R : RattleType) → IsSend R → (allocator : Global) (at : Ptr) (value : Option R.Denot) → Keyless (handle_owns R allocator at value)
owned_keyless R may_go allocator at None = λ null. tt
owned_keyless R may_go allocator null_ptr (Some x) = (tt, frees.frees allocator (raw (lone R.mir)) null_ptr)
owned_keyless R may_go allocator (block_ptr b o) (Some x) = (part_keyless R may_go full_share x b o, frees.frees allocator (raw (lone R.mir)) (block_ptr b o))
