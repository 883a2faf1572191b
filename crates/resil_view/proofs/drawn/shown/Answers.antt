use Rattle.std.proofs.Common.{option_map, string_bytes}
use Rattle.std.proofs.lemmas.Result.{IfOk-weaker}
use Rattle.resil_stats.specs.Svg.{IsHistorySvg, IsSvgOf}
use Rattle.resil_view.specs.Command.{extent_of}
use Rattle.resil_view.proofs.drawn.shown.Goals as goal

pub returns : goal.returns
returns c =
    let is = rw (c.times_of-times.ensures, c.extent_of-extent.ensures) at c.in_ok-picture.ensures in
    IfOk-weaker c.svg_text.result (λ text. IsSvgOf (string_bytes c.args.head.now.name) c.in_ok-picture.picture text.items)
    (λ text. IsHistorySvg (extent_of c.args.head.now.drawing) (string_bytes c.args.head.now.name) c.args.head.now.limits c.args.verdict c.args.events.now (option_map (λ times. times.items) c.args.history.now.times) text.items)
    (λ text drawn. (c.in_ok-picture.picture, record { limits_are = is.limits; opening = is.opening; events = is.events; numbers = is.numbers; verdict_is = is.verdict; window = is.window; most_waiting = is.most_waiting; most_workers = is.most_workers; marks = is.marks; levels = is.levels; drawn = is.drawn; illegal = is.illegal }, drawn))
    (rw c.as_str.ensures.value at c.svg_text.ensures)
