-- What isn't out, and a run of another plan, are refused.
use Rattle.std.proofs.Common.{◌≡◌, ◌∙◌, Some, sym, ap}
use Rattle.resil_rule.proofs.RefusalLaws.{out-are}
use Rattle.resil_admission.proofs.JobLaws.{plan_of-known}
use Rattle.resil_admission.proofs.MachineLaws.{nothing, found-out, found-known}
use Rattle.resil_admission.proofs.machine.Machine.finish.Goals as goal

pub returns-in_default-clause-refused : goal.returns-in_default-clause-refused
returns-in_default-clause-refused c =
    let none = nothing c.find.result c.in_default.not-Some c.find.ensures.none in
    rw (← c.self.view_is) (sym (out-are c.self.inside.rule c.self.inside.history.events c.self.invariant.state c.args.id) ∙ none)

pub returns-in_default-clause-out : goal.returns-in_default-clause-out
returns-in_default-clause-out c = let bars = returns-in_default-clause-refused c in ((λ ok. absurd (cc ok)), (λ known. absurd (cc (known.0, bars))))

pub returns-then-not-is_run_of-clause-refused : goal.returns-then-not-is_run_of-clause-refused
returns-then-not-is_run_of-clause-refused c =
    let has = plan_of-known c.self.inside.jobs.jobs c.args.id (found-known c.self.inside.rule c.self.inside.history.events c.self.invariant.state c.in-Some._slot c.args.id c.in-Some.ensures.found c.self.inside.jobs.jobs c.self.invariant.accepted) in
    let other : (has.0 ≡ c.args.run.plan) → ⊥ = λ same. let said = c.is_run_of.ensures.same.1 (has.1 ∙ ap Some same) in cc (said, c.if-not-is_run_of.true) in
    rw (← c.self.view_is) (found-out c.self.inside.rule c.self.inside.history.events c.self.invariant.state c.in-Some._slot c.args.id c.in-Some.ensures.found, has.0, has.1, other)
