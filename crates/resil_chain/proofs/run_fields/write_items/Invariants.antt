use Rattle.std.proofs.Common.{◌≡◌, ◌∷◌, ◌++◌, drop, map}
use Rattle.std.specs.List.{flat_map}
use Rattle.std.specs.String.{string_bytes}
use Rattle.resil_chain.specs.RunFields.{items_text}
use Rattle.resil_chain.proofs.run_fields.write_items.Given as goal

-- the items so far, and those that are left
abbrev pub invariant-loop-item : goal.invariant-loop-item
invariant-loop-item g l =
    string_bytes l.text ++ flat_map (λ item. 59 ∷ g.I.Item.text_of item) (drop l.item-index l.rest) ≡ items_text (map g.I.Item.text_of l.fn.items)
