-- Which text `replay` writes for an input, and which refusal an input has.
use Rattle.std.specs.Prelude.{ℕ, ◌≡◌, List}
use Rattle.resil_rule.specs.Limits.{Sizes}
use Rattle.resil_rule.specs.declared.event.Event.{Event}
use Rattle.resil_replay.specs.Head.{pool_head_of}
use Rattle.resil_replay.specs.Rows.{IsReplayBody, IsReplayBodyError}
use Rattle.resil_replay.specs.Play.{IsHistoryOf, IsReplayError}
use Rattle.resil_replay.specs.declared.rows.ReplayRow.{ReplayRow}
use Rattle.resil_replay.specs.declared.play.ReplayError.{ReplayError}
use Rattle.resil_replay.specs.declared.play.ReplayError.TheVariants as replay_error
use Rattle.resil_replay.specs.declared.history.Version.{Version}
use Rattle.resil_replay.specs.History.{history_text}
use Rattle.resil_heads.specs.Parts.{SplitsInto, IsPartRefusal}
use Rattle.resil_heads.specs.declared.command_error.CommandError.{CommandError}
use Rattle.resil_heads.specs.declared.command_error.CommandError.TheVariants as error
use Rattle.resil_heads.specs.declared.refusal.InputRefusal.{InputRefusal}
use Rattle.resil_heads.specs.declared.refusal.InputRefusal.TheVariants as refusal

-- The input splits into a head of a pool and a body of rows, and the text is that of the one legal
-- history that the rows give under the limits of the head.
abbrev pub IsReplayText : List ℕ → List ℕ → Type 0
IsReplayText input text = (limits : Sizes) × (body : List ℕ) × (version : Version) × (rows : List ReplayRow) × (history : List Event)
    × SplitsInto pool_head_of input limits body × IsReplayBody body version rows × IsHistoryOf limits rows history × (text ≡ history_text version history)

-- the refusal of the first step that refuses the input: its parts, its head, its body, and then a
-- row that can't be carried out after those before it
abbrev pub IsReplayRefusal : List ℕ → InputRefusal → Type 0
IsReplayRefusal input (refusal.Row position why) = (limits : Sizes) × (body : List ℕ) × (version : Version) × (rows : List ReplayRow)
    × SplitsInto pool_head_of input limits body × IsReplayBody body version rows × IsReplayError limits rows (replay_error.Refused position why)
IsReplayRefusal input why = IsPartRefusal pool_head_of IsReplayBodyError input why

-- the error of `replay` for that of carrying out its rows
abbrev pub from_replay_error : ReplayError → CommandError
from_replay_error replay_error.Memory = error.Memory
from_replay_error (replay_error.Refused position why) = error.Refused (refusal.Row position why)
