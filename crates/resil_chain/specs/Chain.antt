-- Which text `chain` writes for an input, and which refusal an input has.
use Rattle.std.specs.Prelude.{ℕ, ◌≡◌, List}
use Rattle.resil_decor.specs.Run.{RunView}
use Rattle.resil_decor.specs.declared.layer.Layer.{Layer}
use Rattle.resil_chain.specs.Head.{chain_head_of}
use Rattle.resil_chain.specs.Rows.{IsChainBody, IsChainBodyError, ChainRowView}
use Rattle.resil_chain.specs.Runs.{AreRunsOf, chain_text}
use Rattle.resil_heads.specs.Parts.{SplitsInto, IsPartRefusal}
use Rattle.resil_heads.specs.declared.refusal.InputRefusal.{InputRefusal}

-- The input splits into a head with layers and a body of rows, and the text is that of the runs of
-- the rows through the layers.
abbrev pub IsChainText : List ℕ → List ℕ → Type 0
IsChainText input text = (layers : List Layer) × (body : List ℕ) × (rows : List ChainRowView) × (runs : List RunView)
    × SplitsInto chain_head_of input layers body × IsChainBody body rows × AreRunsOf layers rows runs × (text ≡ chain_text runs)

-- the refusal of the first step that refuses the input: its parts, its head, its body
abbrev pub IsChainRefusal : List ℕ → InputRefusal → Type 0
IsChainRefusal input why = IsPartRefusal chain_head_of IsChainBodyError input why
