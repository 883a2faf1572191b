-- The words of the walks, by which functions that touch a pointer are proved.
pub use Rattle.std.proofs.Common.{◌≡◌, ℕ, List, [], ◌∷◌, ◌++◌, ◌&&◌, T, true, lit<, refl, sym, subst, ap, ◌∙◌}
pub use seplogic.Ra.Ura.{Ura}
pub use mir.Syntax.{impl, tnil, dnil, Fn, Args, a_type, dcons}
pub use mir.Raw.{raw as bare}
pub use mir.Val.{Val, vptr, vnull, vstruct, vcons, vnil, of_list, has_ty, WT}
pub use base.Logic.{SProp, ent, guard, never, fst∗, snd∗, via, guard_i, id⊢, emp}
pub use base.Fraction.{full_share}
pub use contract.Monad.{fact_use, fact, fact_i}
pub use types.Logic.{Logic, sem}
pub use types.Kit.{Item, Goal, Seq, Step, step, ‵, ◌$◌, move, drop, fsplit, fjoin, fpick, fpack, rewrite, feq_i, feq_l, raw, ◌⊛◌, some, later, at_ret, ◌∵◌}
pub use types.Kit.{ !, qed, by, keep, split, split3, join, pick, suffices, use1, await, use0, given, learn}
pub use denote.RattleType.{RattleType, Valss, owns}
pub use denote.Builtin.{RawPtr}
pub use denote.Memory.{lone}
pub use denote.RawPtr.{Ptr, block_ptr, null_ptr, ptr_val, in_a_block, lies_at, Testable, tests_null}
pub use denote.Steps.{nothing, only, heard}
pub use denote.Param.{layout, bounded}
pub use denote.Param.Laws.{Laws, param_laws}
pub use denote.Struct.Struct.{within}
pub use denote.Struct.Owning.{shape}
pub use Rattle.std.specs.Prelude.{Option, Some, None}
pub use Rattle.core.specs.declared.alloc.Allocator.{Ghosts}
pub use Rattle.core.proofs.alloc.Calls.{Al, handle_tells, Goes-blank}
pub use Rattle.core.proofs.cell.Inside.{Good}
pub use Rattle.std_alloc.specs.Box.Ownership.{box_owns}
pub use Rattle.std_alloc.proofs.ResultValues.{and_tt}
pub use Rattle.std.specs.declared.alloc.Global.{Global}
pub use Rattle.std.specs.contracts.impls.GlobalAllocator.TheImpl.{ghosts}
pub use Rattle.std.proofs.GlobalToken.{dealloc_token-Testable}
pub use mir.MapTy.{inst_fn}
pub use base.Fml.{ftrue, flft, fsep}
pub use prog.Wp.{WpFn}
pub use types.Run.{stop, fld, of_opd, no_more, and_then, first, blocks, exec, returns, enter, lit, bin, branches}
pub use types.ByLocal.{alloc_all, pass_all, free_all, look_at, get, get_in, sets, lands_last, env, lands_as, sets_last}
pub use types.Part.{sub, whole, agg}
pub use contract.BorrowLft.{◌⊑◌}
pub use contract.Running.{tables}
pub use denote.Exit.{no, yes}
pub use denote.Signature.{types_at, plain, type_at}
pub use denote.Triple.Clauses.{Lasts, lasts}
pub use denote.Triple.Spec.{triple_of}
pub use denote.Triple.Call.{calls_at_last, calls_at}
pub use denote.Triple.Walked.{Stays, stay_dropped, walk_of, Goes-dropped}
pub use Rattle.core.proofs.alloc.Shapes.{after}
pub use Rattle.core.proofs.atomic.Steps.{fm, Ptr-Good}
pub use Rattle.std.proofs.raw_atomic.Walks.{proved_at, leaves}
pub use Rattle.std_alloc.proofs.BoxSteps.Steps.{box_out, box_in}
pub use denote.Struct.Tuple.{Tuple}
pub use types.Match.{live}
pub use Rattle.core.proofs.option.Made.{Some-of, none_of}
