-- The ranges of what the head of a `run` gives.
use Rattle.std.proofs.Common.{IfOk, Result, codes, length}
use Rattle.toml.specs.Data.{Members}
use Rattle.resil_heads.specs.Checks.{Gives}
use Rattle.resil_heads.specs.Keys.{parse_at, parse_count}
use Rattle.resil_heads.specs.Layers.{build_chain, parse_chain}
use Rattle.resil_heads.specs.Ranges.{ArePermitsInRange, AreLayersInRange}
use Rattle.resil_heads.specs.Sizes.{parse_limits}
use Rattle.resil_heads.specs.declared.error.HeadError.{HeadError}
use Rattle.resil_heads.proofs.RangeLaws.{AreAsked, IsBuilt, any-ok, asked-ok, built-ok, gives-ok, then-ok}
use Rattle.resil_driver.specs.Run.Head.{RunHeadView, parse_run, run_keys}

abbrev pub IsRunHead : RunHeadView → Type 0
IsRunHead said = AreLayersInRange (length said.bulkheads.instances) said.layers × ArePermitsInRange said.bulkheads

run-said-ok : (head : Members) → IfOk (parse_run head) IsRunHead
unfolding parse_run
run-said-ok head =
    then-ok AreAsked IsRunHead (parse_chain run_keys head) _ (asked-ok run_keys head) (λ asked all.
    then-ok (λ _. Unit {0}) IsRunHead (parse_at parse_count 20 (codes "keep_alive") head) _ (any-ok (parse_at parse_count 20 (codes "keep_alive") head)) (λ keep_alive _.
    then-ok (λ _. Unit {0}) IsRunHead (parse_limits head) _ (any-ok (parse_limits head)) (λ limits _.
    then-ok IsBuilt IsRunHead (build_chain asked) _ (built-ok asked all) (λ built is. (is.layers, is.permits)))))

-- what a call gives of a head
pub run-in-range : (r : Result RunHeadView HeadError) (head : Members) → Gives r (parse_run head) → IfOk r IsRunHead
run-in-range r head given = gives-ok IsRunHead r (parse_run head) given (run-said-ok head)
