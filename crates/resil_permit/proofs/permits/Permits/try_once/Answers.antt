-- The two steps of a try keep the rule, and a lost exchange shows that the number of free permits changed.
use Rattle.std.proofs.Common.{◌∙◌, subst, arith}
use Rattle.resil_permit.specs.declared.permits.Attempt.TheVariants.{Taken, Contended}
use Rattle.resil_permit.specs.Passes.{PassView, pass_view}
use Rattle.resil_permit.specs.TryAcquire.{IsTry}
use Rattle.resil_permit.proofs.ProtocolSteps.{allows, loading, exchanging}
use Rattle.resil_permit.proofs.Calls.{same_table, taken, lost, room}
use Rattle.resil_permit.proofs.permits.Permits.try_once.Goals as goal

pub load-free-requires : goal.load-free-requires
load-free-requires c = (same_table _ _ _ _ c.pass.view_is c.requires c.self.view_is, omega arith, allows _ (loading _ _ _ _ c.pass.invariant.idle))

pub compare_exchange-found-requires : goal.compare_exchange-found-requires
compare_exchange-found-requires c =
    let told = c.load-free.ensures in
    let table = told.0 ∙ same_table _ _ _ _ c.pass.view_is c.requires c.self.view_is in
    (table, omega arith, allows _ (exchanging _ _ _ _ _ _ (told.2.loaded c.if-free-eq0.false).0 (omega arith)))

pub overflow_add-pass : goal.overflow_add-pass
overflow_add-pass c =
    let few = c.pass.invariant.few in
    let least = room _ _ c.pass.inside.held _ _ _ (taken c.load-free.ensures.2 c.if-free-eq0.false c.compare_exchange-found.ensures.2 c.if-found-free.false) c.pass.invariant.counted in omega arith

pub returns-then-found-free-clause-tried : goal.returns-then-found-free-clause-tried
returns-then-found-free-clause-tried c =
    let new = c.compare_exchange-found.new.seat in
    subst (λ (k : PassView). IsTry k (pass_view new.table_id new.me) Contended) c.pass.view_is (lost c.load-free.ensures.2 c.if-free-eq0.false c.compare_exchange-found.ensures.2 c.if-found-free.true)

pub returns-clause-tried : goal.returns-clause-tried
returns-clause-tried c =
    let new = c.compare_exchange-found.new.seat in
    subst (λ (k : PassView). IsTry k (pass_view new.table_id new.me) Taken) c.pass.view_is (taken c.load-free.ensures.2 c.if-free-eq0.false c.compare_exchange-found.ensures.2 c.if-found-free.false)
