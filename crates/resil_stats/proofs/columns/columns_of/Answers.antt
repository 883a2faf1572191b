use Rattle.std.proofs.Common.{subst, sym, arith}
use Rattle.resil_stats.specs.Columns.{AreColumnsFrom}
use Rattle.resil_stats.proofs.ColumnLaws.{columns-push}
use Rattle.resil_stats.proofs.columns.columns_of.Goals as goal

pub loop-done-preserved : goal.loop-done-preserved
loop-done-preserved c =
    let made = c.gather_column.ensures in
    let ends = c.column_end-end.ensures.column in
    let begun = c.loop-done.invariant.begun in
    let later = c.column_end-end.ensures.later in
    record {
      begun = omega (arith, begun, later);
      within = c.column_end-end.ensures.within;
      columns = subst (AreColumnsFrom c.args.events.now c.args.levels.now _ c.args.window c.args.window.before c.column_end-end.result) (sym c.in_ok-push.ensures.items)
          (columns-push c.args.events.now c.args.levels.now _ c.args.window c.args.window.before c.loop-done.done _ c.loop-done.columns.items _ made.column made.sizes made.from made.to ends c.loop-done.invariant.columns);
    }
