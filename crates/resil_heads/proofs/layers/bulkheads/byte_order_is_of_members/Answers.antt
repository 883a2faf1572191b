use Rattle.std.proofs.Common.{◌∷◌, List, []}
use Rattle.std.specs.List.Sorted.{IsStrictlySortedBy}
use Rattle.std.specs.Map.{keys_of}
use Rattle.std.specs.String.{string_cmp}
use Rattle.toml.specs.View.{members_view}
use Rattle.toml.proofs.Views.{Entry, is_before-sorted}
use Rattle.resil_heads.specs.ByteOrder.{AreInByteOrder}
use Rattle.resil_heads.proofs.layers.bulkheads.byte_order_is_of_members.Goals as goal

in-order : (entries : List Entry) → IsStrictlySortedBy string_cmp (keys_of entries) → AreInByteOrder (members_view entries)
unfolding IsStrictlySortedBy
in-order [] sorted = tt
in-order (e ∷ entries) sorted = (is_before-sorted e.0 entries sorted.0, in-order entries sorted.1)

pub returns : goal.returns
returns c = in-order c.args.table.now.entries c.iter-members.ensures.ordered
