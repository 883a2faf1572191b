use Rattle.resil_simulate.proofs.Words.{◌∙◌, ap, map, sym, view, each, parse_count, each-init, items_listed-of}
use Rattle.resil_simulate.proofs.head.parse_counts.Goals as goal

pub loop-item-init : goal.loop-item-init
loop-item-init c =
    rw (← c.in-Some.ensures, c.as_slice-item-items.ensures.value)
    (each-init parse_count view _ _ c.new-counts.ensures.items ∙ ap (each parse_count) (sym (items_listed-of (map view c.in-Some.items.now.items))))
