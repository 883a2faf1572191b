use Rattle.resil_simulate.proofs.Words.{◌≡◌, ◌∙◌, ◌+◌, ◌++◌, ◌∷◌, [], List, Some, suc, ap, arith, get_or, refl, submitted_at, subst}
use Rattle.resil_simulate.specs.declared.history.SubmittedJob.{SubmittedJob}
use Rattle.resil_simulate.proofs.HistoryLaws.{no_timed, none-submitted, none_made, one_made}
use Rattle.resil_simulate.proofs.history.submissions_behind.Goals as goal

pub loop-index-preserved-in_default : goal.loop-index-preserved-in_default
loop-index-preserved-in_default c =
    let history = c.args.history.now in
    let rest = c.args.rest.now in
    let i = c.loop-index.index in
    let r = c.args.restated in
    c.loop-index.invariant ∙ none_made history rest r i c.loop-index-test.true (none-submitted history (suc r + i) (get_or rest i no_timed) c.in_default.not-Submit)

pub loop-index-preserved : goal.loop-index-preserved
loop-index-preserved c =
    let history = c.args.history.now in
    let rest = c.args.rest.now in
    let i = c.loop-index.index in
    let r = c.args.restated in
    let run = c.ran_of.ensures history c.in_ok-starts.ensures.times c.in_ok-finishes.ensures.times c.last_at-last.ensures in
    let job : SubmittedJob = record { place = r + i + 1; id = c.in-Submit.id; at = (get_or rest i no_timed).at; ran = c.ran_of.result } in
    let here : Some job ≡ submitted_at history (r + i + 1, get_or rest i no_timed) = rw (c.in-Submit.is, run) refl in
    let same : r + i + 1 ≡ suc r + i = omega arith in
    let told : Some job ≡ submitted_at history (suc r + i, get_or rest i no_timed) = subst (λ p. Some job ≡ submitted_at history (p, get_or rest i no_timed)) same here in
    c.in_ok-push.ensures.items ∙ ap (λ (jobs : List SubmittedJob). jobs ++ job ∷ []) c.loop-index.invariant ∙ one_made history rest r i c.loop-index-test.true job told
