-- The versions in which the text of a history is read.
use Rattle.std.specs.Prelude.{ℕ, List}
use Rattle.resil_replay.specs.History.{history_header}
use Rattle.resil_replay.specs.Timed.{timed_header}
use Rattle.resil_replay.specs.declared.layout.Layout.{Layout}
use Rattle.resil_replay.specs.declared.layout.Layout.TheVariants.{Untimed, Timed}

-- the fields of the header of a version
abbrev pub layout_header : Layout → List (List ℕ)
layout_header (Untimed version) = history_header version
layout_header Timed = timed_header
