use Rattle.std.proofs.Common.{◌∙◌}
use Rattle.toml.specs.View.{table_view}
use Rattle.resil_bulkheads.specs.Neighbours.{IsBulkheadSaid, IsWaitSaid}
use Rattle.resil_bulkheads.proofs.ListLaws.{AllZip-next}
use Rattle.resil_bulkheads.proofs.NeighboursLaws.{said-along}
use Rattle.resil_bulkheads.proofs.neighbours.Neighbours.add_all.Goals as goal

pub loop-keys-preserved : goal.loop-keys-preserved
loop-keys-preserved c =
    let inv = c.loop-keys.invariant in
    let added = c.in_ok-add_at.ensures.bulkhead in
    let waited = c.in_ok-add_at.ensures.wait in
    record {
      configurations = c.in_ok-add_at.ensures.configurations ∙ inv.configurations;
      each = AllZip-next (IsBulkheadSaid _) (λ table. table_view table.now) c.args.tables.now c.loop-keys.keys-index c.keys-item.result _ _ added.bulkhead c.loop-keys-test.true c.keys-item.is added.last inv.each
          (said-along _ _ _ _ inv.configurations added.said);
      each_wait = AllZip-next IsWaitSaid (λ table. table_view table.now) c.args.tables.now c.loop-keys.keys-index c.keys-item.result _ _ waited.wait c.loop-keys-test.true c.keys-item.is waited.last inv.each_wait waited.said;
    }
