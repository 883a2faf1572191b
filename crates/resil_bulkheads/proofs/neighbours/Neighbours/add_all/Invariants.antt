use Rattle.std.proofs.Common.{◌≡◌, map, take}
use Rattle.std.specs.List.{AllZip}
use Rattle.toml.specs.View.{table_view}
use Rattle.resil_bulkheads.specs.Neighbours.{IsBulkheadSaid, IsWaitSaid}
use Rattle.resil_bulkheads.proofs.neighbours.Neighbours.add_all.Given as goal

-- each table so far says one bulkhead and its wait
abbrev pub invariant-loop-keys : goal.invariant-loop-keys
invariant-loop-keys l = record {
  configurations : l.self.registry.lists.configurations ≡ l.fn.self.registry.lists.configurations;
  each : AllZip (IsBulkheadSaid l.fn.self.registry.lists) (map (λ table. table_view table.now) (take l.keys-index l.tables)) l.self.registry.bulkheads;
  each_wait : AllZip IsWaitSaid (map (λ table. table_view table.now) (take l.keys-index l.tables)) l.self.waits.items;
}
