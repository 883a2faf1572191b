use Rattle.std.proofs.Common.{◌≡◌, drop, length, if◌then◌else◌}
use Rattle.resil_retry.specs.declared.outcome.Kind.{Kind}
use Rattle.resil_retry.specs.ErrorTest.{has_kind}
use Rattle.resil_retry.specs.KindTable.{answer_of, HasIndex}
use Rattle.resil_retry.proofs.kind_table.KindTable.set.Given as goal

-- the table is as long as before, and with the kinds that are left it becomes what it is to be
abbrev pub invariant-loop-kind : goal.invariant-loop-kind
invariant-loop-kind l = record {
  whole : length l.self-inside.answers.items ≡ 65538;
  left : (kind : Kind) → HasIndex kind → (if has_kind (drop l.kind-index l.kinds) kind then l.answer else answer_of l.self-inside.answers.items kind)
      ≡ (if has_kind l.kinds kind then l.answer else answer_of l.fn.self kind);
}
