-- Which texts a single-threaded command may write for an input, and why it may refuse the input.
-- Each definition is a relation: a given text is one that the command may write, and a given
-- refusal is that of the first step that refuses the input.
use Rattle.std.specs.Prelude.{ℕ, List}
use Rattle.resil_replay.specs.Audit.{IsAuditText, IsAuditRefusal}
use Rattle.resil_chain.specs.Chain.{IsChainText, IsChainRefusal}
use Rattle.resil_replay.specs.Replay.{IsReplayText, IsReplayRefusal}
use Rattle.resil_weave.specs.Weave.{IsWeaveText, IsWeaveRefusal}
use Rattle.resil_words.specs.declared.command_line.Single.{Single}
use Rattle.resil_words.specs.declared.command_line.Single.TheVariants.{Replay, Audit, Chain, Weave}
use Rattle.resil_heads.specs.declared.refusal.InputRefusal.{InputRefusal}

-- a text of a command
abbrev pub IsTextOf : Single → List ℕ → List ℕ → Type 0
IsTextOf Replay input text = IsReplayText input text
IsTextOf Audit input text = IsAuditText input text
IsTextOf Chain input text = IsChainText input text
IsTextOf Weave input text = IsWeaveText input text

-- a refusal of an input by a command
abbrev pub IsRefusalOf : Single → List ℕ → InputRefusal → Type 0
IsRefusalOf Replay input why = IsReplayRefusal input why
IsRefusalOf Audit input why = IsAuditRefusal input why
IsRefusalOf Chain input why = IsChainRefusal input why
IsRefusalOf Weave input why = IsWeaveRefusal input why
