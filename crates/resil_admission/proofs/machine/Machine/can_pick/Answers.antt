use Rattle.std.proofs.Common.{◌≡◌, ◌<◌, true, false, nat_lt, refl, arith}
use Rattle.std.proofs.lemmas.Grind.{common_steps}
use Rattle.std.proofs.lemmas.Bool.{OnTrue_from, OnFalse_from}
use Rattle.std.proofs.lemmas.List.{nil_from_length}
use Rattle.resil_rule.specs.RuleView.{busy}
use Rattle.resil_rule.proofs.RuleLaws.{busy-none, empty-none}
use Rattle.resil_admission.specs.MachineView.{HasOneToPick, HasNoneToPick}
use Rattle.resil_admission.proofs.MachineLaws.{one-own, one-queued, none-taken}
use Rattle.resil_admission.proofs.machine.Machine.can_pick.Goals as goal

pub returns-then-unpicked-gt0-clause-some : goal.returns-then-unpicked-gt0-clause-some
returns-then-unpicked-gt0-clause-some c =
    rw (← c.self.view_is) (one-own c.self.inside.rule c.self.inside.history.events c.self.invariant.state c.self.inside.jobs.jobs (omega (arith, c.if-unpicked-gt0.true, c.unpicked.ensures)))

pub returns-then-has_idle_worker-clause-some : goal.returns-then-has_idle_worker-clause-some
returns-then-has_idle_worker-clause-some c =
    let v = c.self.inside.rule in
    let none = nil_from_length v.unpicked (omega (arith, c.if-unpicked-gt0.false, c.unpicked.ensures)) in
    let idle = c.has_idle_worker.ensures.0 (rw c.if-has_idle_worker.true refl) in
    OnTrue_from (nat_lt 0 c.waiting.result) (HasOneToPick c.args.self.now) (λ (some : nat_lt 0 c.waiting.result ≡ true).
    let more : 0 < c.waiting.result = grind (arith, common_steps, some) in
    rw (← c.self.view_is) (one-queued v c.self.inside.history.events c.self.invariant.state c.self.inside.jobs.jobs none (omega (arith, more, c.waiting.ensures.waiting)) idle))

pub returns-then-has_idle_worker-clause-none : goal.returns-then-has_idle_worker-clause-none
returns-then-has_idle_worker-clause-none c =
    let v = c.self.inside.rule in
    let h = c.self.inside.history.events in
    let none = nil_from_length v.unpicked (omega (arith, c.if-unpicked-gt0.false, c.unpicked.ensures)) in
    OnFalse_from (nat_lt 0 c.waiting.result) (HasNoneToPick c.args.self.now) (λ (past : nat_lt 0 c.waiting.result ≡ false).
    let few : c.waiting.result ≡ 0 = grind (arith, common_steps, past) in
    let empty = nil_from_length v.waiting (omega (arith, few, c.waiting.ensures.waiting)) in
    rw (← c.self.view_is) (none-taken v h c.self.invariant.state c.self.inside.jobs.jobs none (empty-none v empty h c.self.invariant.state)))

pub returns-else-has_idle_worker-clause-none : goal.returns-else-has_idle_worker-clause-none
returns-else-has_idle_worker-clause-none c =
    let v = c.self.inside.rule in
    let h = c.self.inside.history.events in
    let none = nil_from_length v.unpicked (omega (arith, c.if-unpicked-gt0.false, c.unpicked.ensures)) in
    let bars : (busy v < v.workers) → ⊥ = λ idle. let told = c.has_idle_worker.ensures.1 idle in cc (told, c.if-has_idle_worker.false) in
    let nothing : HasNoneToPick c.args.self.now = rw (← c.self.view_is) (none-taken v h c.self.invariant.state c.self.inside.jobs.jobs none (busy-none v (omega (arith, bars)) h c.self.invariant.state)) in
    OnFalse_from _ _ (λ _. nothing)
