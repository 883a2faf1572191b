-- The ranges of what the head of a `chain` gives.
use Rattle.std.proofs.Common.{List, IfOk, Result, length}
use Rattle.std.proofs.lemmas.List.Elements.{All-weaker}
use Rattle.toml.specs.Data.{Members}
use Rattle.resil_decor.specs.declared.layer.Layer.{Layer}
use Rattle.resil_heads.specs.Checks.{Gives}
use Rattle.resil_heads.specs.Layers.{build_chain, parse_chain}
use Rattle.resil_heads.specs.Ranges.{AreLayersInRange, IsLayerInRange}
use Rattle.resil_heads.specs.declared.error.HeadError.{HeadError}
use Rattle.resil_heads.proofs.RangeLaws.{AreAsked, IsBuilt, asked-ok, built-ok, gives-ok, in-range-later, then-ok}
use Rattle.resil_chain.specs.Head.{chain_in, chain_keys}

-- what holds of the layers
abbrev pub IsChainHead : List Layer → Type 0
IsChainHead layers = AreLayersInRange (length layers) layers

chain-in-ok : (head : Members) → IfOk (chain_in head) IsChainHead
unfolding chain_in
chain-in-ok head =
    then-ok AreAsked IsChainHead (parse_chain chain_keys head) _ (asked-ok chain_keys head) (λ asked all.
    then-ok IsBuilt IsChainHead (build_chain asked) _ (built-ok asked all) (λ built is.
    (is.layers.0, All-weaker (IsLayerInRange (length built.lists.instances)) (IsLayerInRange (length built.layers)) (in-range-later _ _ is.few) built.layers is.layers.1)))

-- what a call gives of a head
pub chain-in-range : (r : Result (List Layer) HeadError) (head : Members) → Gives r (chain_in head) → IfOk r IsChainHead
chain-in-range r head given = gives-ok IsChainHead r (chain_in head) given (chain-in-ok head)
