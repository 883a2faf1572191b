-- How a proof stores a worker's end: as what its seat has seen, since no run of it was refused.
use Rattle.std.specs.Prelude.{◌≡◌, Option, Some, None, refl}
use Rattle.std.specs.Coded.{Coded, code_by}
use Rattle.resil_pool.specs.Words.{RunView}
use Rattle.resil_pool.specs.Parts.{SeatView, EndView, IsNoRun, end_of}
use Rattle.resil_pool.specs.declared.parts.Worker.{the_code}

abbrev pub seat_of : EndView → SeatView
seat_of e = record { source = e.source; seen = e.seen; wrote = e.wrote; runs = e.runs }

pub with_none : (s : SeatView) (run : Option RunView) (none : IsNoRun run) → end_of s ≡ record { source = s.source; seen = s.seen; wrote = s.wrote; runs = s.runs; refused = run; none = none }
with_none s None none = refl
with_none s (Some run) none = absurd none

abbrev pub end_code : Coded EndView
end_code = code_by SeatView the_code seat_of end_of (λ e. with_none (seat_of e) e.refused e.none)
