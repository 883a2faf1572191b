use Rattle.std.proofs.Common.{◌≡◌, ◌<◌, ◌+◌, ◌++◌, ◌∷◌, ◌∙◌, [], ℕ, List, Option, ap, append-nil, get_or, length, sym, take}
use Rattle.std.specs.List.{cons_option}
use Rattle.std.proofs.lemmas.List.{take_more}
use Rattle.std.proofs.lemmas.List.Elements.{filter_map-append}
use Rattle.resil_rule.specs.declared.timed.Timed.{Timed}
use Rattle.resil_jdk.specs.declared.timed.TimedJdkEvent.{TimedJdkEvent}
use Rattle.resil_simulate.specs.Version.{in_own_words, own_timed}
use Rattle.resil_simulate.proofs.version.in_own_words.Goals as goal

-- one event more
own-more : (history : List TimedJdkEvent) (i : ℕ) (d : TimedJdkEvent) → i < length history → in_own_words (take (i + 1) history) ≡ in_own_words (take i history) ++ cons_option (own_timed (get_or history i d)) []
own-more history i d within = ap in_own_words (take_more history i d within) ∙ filter_map-append own_timed (take i history) (get_or history i d ∷ [])

pub loop-timed-preserved : goal.loop-timed-preserved
loop-timed-preserved c =
    let history = c.args.history.now in
    let i = c.loop-timed.timed-index in
    let is = sym c.own_timed.ensures ∙ c.in-Some.is in
    c.in_ok-push.ensures.items ∙ ap (λ (own : List Timed). own ++ c.in-Some.timed ∷ []) c.loop-timed.invariant
    ∙ sym (own-more history i _ c.loop-timed-test.true ∙ ap (λ (o : Option Timed). in_own_words (take i history) ++ cons_option o []) is)

pub loop-timed-preserved-in_default : goal.loop-timed-preserved-in_default
loop-timed-preserved-in_default c =
    let history = c.args.history.now in
    let i = c.loop-timed.timed-index in
    let is = sym c.own_timed.ensures ∙ c.in_default.is in
    c.loop-timed.invariant ∙ sym (own-more history i _ c.loop-timed-test.true ∙ ap (λ (o : Option Timed). in_own_words (take i history) ++ cons_option o []) is ∙ append-nil _)
