use Rattle.std.proofs.Common.{◌≡◌, ◌++◌, [], refl, ap, ◌∙◌, append-nil, arith}
use Rattle.resil_decor.proofs.job.Job.run.Goals as goal

pub invariant_of-result : goal.invariant_of-result
invariant_of-result g c =
    let ran = c.call_through-outcome.ensures.ran in
    let calls : c.call_through-outcome.new.log.calls ≡ ran.calls = omega (arith, ran.new_calls, c.self.invariant.1) in
    let waits : c.call_through-outcome.new.log.waits ≡ ran.waits = ran.new_waits ∙ ap (λ w. w ++ ran.waits) c.self.invariant.2 in
    let asked : c.call_through-outcome.new.log.asked ≡ ran.asked = ran.new_asked ∙ ap (λ a. a ++ ran.asked) c.self.invariant.3 in
    let value = rw (c.layers.ensures.layers, c.new-player.ensures, c.script.ensures, c.plan-called.ensures, append-nil ran.asked) at (ran.value []) in
    rw (calls, waits, asked, value) (refl, refl, refl, refl)

pub returns-clause-given : goal.returns-clause-given
returns-clause-given g c =
    let wrote = c.call_through-outcome.ensures.given in
    let asked : c.call_through-outcome.new.log.asked ≡ wrote.more = wrote.written ∙ ap (λ a. a ++ wrote.more) c.self.invariant.3 in
    rw asked wrote.holds

pub returns-clause-value : goal.returns-clause-value
returns-clause-value g c = invariant_of-result g c
