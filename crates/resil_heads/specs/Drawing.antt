-- What a head says of the chart of its history: from when to when it is drawn, and how high the scales of its bands go.
use Rattle.std.specs.Prelude.{ℕ, Bool, true, Option, Some, None, Result, Ok, Err, List, codes, if◌then◌else◌, nat_lt}
use Rattle.toml.specs.Data.{Members}
use Rattle.resil_heads.specs.Checks.{and_then}
use Rattle.resil_heads.specs.Keys.{parse_count, parse_known, parse_wait}
use Rattle.resil_heads.specs.declared.drawing.Drawing.{Drawing}
use Rattle.resil_heads.specs.declared.error.HeadError.{HeadError}
use Rattle.resil_heads.specs.declared.error.HeadError.TheVariants as error

-- a number from 0 to 4,294,967,295, if it is there
abbrev pub parse_most : List ℕ → Members → Result (Option ℕ) HeadError
parse_most key head = parse_known parse_count key head

-- an end is above a beginning, if both are there
abbrev pub is_later : Option ℕ → Option ℕ → Bool
is_later (Some from) (Some to) = nat_lt from to
is_later _ _ = true

-- the end of what is drawn, if it is there: an integer from 0 on, above the beginning
abbrev pub parse_end : Option ℕ → Members → Result (Option ℕ) HeadError
parse_end from head = and_then (parse_known parse_wait (codes "to") head) (λ to. if is_later from to then Ok to else Err error.BadValue)

-- what a table says of the chart
abbrev pub parse_drawing : Members → Result Drawing HeadError
parse_drawing head =
    and_then (parse_known parse_wait (codes "from") head) (λ from.
    and_then (parse_end from head) (λ to.
    and_then (parse_most (codes "most_waiting") head) (λ most_waiting.
    and_then (parse_most (codes "most_workers") head) (λ most_workers.
    Ok (record { from = from; to = to; most_waiting = most_waiting; most_workers = most_workers })))))

-- the whole history, in the scales that fit it
abbrev pub no_drawing : Drawing
no_drawing = record { from = None; to = None; most_waiting = None; most_workers = None }

-- what the table says if that is used; else the whole history, whatever is there
abbrev pub parse_used_drawing : Bool → Members → Result Drawing HeadError
parse_used_drawing is_used head = if is_used then parse_drawing head else Ok no_drawing
