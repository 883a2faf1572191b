-- The steps so far were made, and there is room for what the others show.
use Rattle.std.proofs.Common.{◌≡◌, ◌≤◌, length, vec_len}
use Rattle.std.specs.Vec.{vec_capacity}
use Rattle.resil_permit.proofs.Weavings.{IsWovenSoFar}
use Rattle.resil_permit.proofs.interleaving.weave.Given as goal

abbrev pub invariant-loop-index : goal.invariant-loop-index
invariant-loop-index l = record {
  woven : IsWovenSoFar l.max l.steps l.index l.machine.word l.machine.callers.items l.woven.shown.items l.woven.events.items;
  shown_count : vec_len l.woven.shown ≡ l.index;
  events_count : vec_len l.woven.events ≤ l.index;
  shown_room : length l.steps ≤ vec_capacity l.woven.shown;
  events_room : length l.steps ≤ vec_capacity l.woven.events;
}
