-- Each client that is there is a new one of this bulkhead.
use Rattle.std.proofs.Common.{◌≡◌, length}
use Rattle.std.specs.List.{All}
use Rattle.resil_permit.specs.Passes.{held_by, retired_by}
use Rattle.resil_bulkhead.proofs.bulkhead.Bulkhead.clients.Given as goal

abbrev pub invariant-loop : goal.invariant-loop
invariant-loop l = record {
  count : length l.clients.items ≡ l.counter;
  each : All (λ client. (client.bulkhead.now ≡ l.self) × (held_by client.pass ≡ 0) × (retired_by client.pass ≡ 0)) l.clients.items;
}
