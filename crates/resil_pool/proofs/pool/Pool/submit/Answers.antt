-- The turn of a submission.
use Rattle.std.proofs.Common.{◌≡◌, ◌+◌, List, [], ◌∷◌, ◌++◌, length, sym, ap, ◌∙◌, subst, rules, ℕ}
use Rattle.resil_pool.specs.declared.receipt.Ticket.{Ticket}
use Rattle.resil_pool.specs.declared.receipt.Receipt.{Receipt}
use Rattle.resil_pool.specs.Lock.{SeesOwn}
use Rattle.resil_pool.specs.Parts.{IsCaller, submission_id, receipt_of, submission_of}
use Rattle.resil_pool.proofs.TurnLaws.{has-turn, acted, gives, turned}
use Rattle.resil_pool.proofs.Submissions.{submission-moved, submission-may, caller-after, caller-saw, right_number, refused_for_memory}
use Rattle.resil_pool.proofs.pool.Pool.submit.Goals as goal

abbrev IsSameReceipt : Receipt → Receipt → Type 0
IsSameReceipt a b = a ≡ b

pub release-requires : goal.release-requires
release-requires g c =
    let s = c.submit-answer.ensures in
    gives (search rules) (acted c.caller.inside.seat.me c.submit-answer.new.self (c.deref_mut.ensures.value ∙ c.state.view_is) c.take-state.ensures (submission-moved _ _ _ _ c.submit-answer.result _ s) (λ fits. submission-may _ _ _ _ _ _ _ c.submit-answer.result _ fits c.caller.invariant s))

pub invariant_of-caller-in-Ok-answer : goal.invariant_of-caller-in-Ok-answer
invariant_of-caller-in-Ok-answer g c =
    let s = c.submit-answer.ensures in
    let turn = turned (acted c.caller.inside.seat.me c.submit-answer.new.self (c.deref_mut.ensures.value ∙ c.state.view_is) c.take-state.ensures (submission-moved _ _ _ _ c.submit-answer.result _ s) (λ fits. submission-may _ _ _ _ _ _ _ c.submit-answer.result _ fits c.caller.invariant s)) c.release.ensures in
    let receipt : Receipt = record { number = c.len.result + 1; reply = c.in-Ok-answer.reply; plan = c.args.job } in
    let told : IsSameReceipt (receipt_of c.keep_receipt.result c.in-Ok.plan) receipt = λ i. receipt_of (c.keep_receipt.ensures.ticket i) ((c.in-Ok.ensures.copied ∙ c.plan.ensures) i) in
    let items : c.keep_receipt.new.receipts.items ≡ c.caller.inside.receipts.items ++ receipt ∷ [] = c.keep_receipt.ensures.kept ∙ (λ i. c.reserve.ensures.items i ++ told i ∷ []) in
    subst (λ (rs : List Receipt). IsCaller c.release.new.seat.me c.caller.inside.number rs) (sym items) (caller-after turn _ _ c.caller.invariant receipt c.in-Ok-answer.ensures.told)

pub returns-in-Ok-answer-clause-seen : goal.returns-in-Ok-answer-clause-seen
returns-in-Ok-answer-clause-seen g c =
    let s = c.submit-answer.ensures in
    let turn = turned (acted c.caller.inside.seat.me c.submit-answer.new.self (c.deref_mut.ensures.value ∙ c.state.view_is) c.take-state.ensures (submission-moved _ _ _ _ c.submit-answer.result _ s) (λ fits. submission-may _ _ _ _ _ _ _ c.submit-answer.result _ fits c.caller.invariant s)) c.release.ensures in
    let k = c.args.caller.now in
    let receipt : Receipt = record { number = c.len.result + 1; reply = c.in-Ok-answer.reply; plan = c.args.job } in
    subst (λ (ticket : Ticket). SeesOwn k.source.limits k.number k.seen (submission_of k.number (receipt_of ticket c.args.job)) c.release.new.seat.me.0.seen) (sym c.keep_receipt.ensures.ticket)
    (caller-saw turn _ _ c.caller.invariant _ _ c.caller.view_is receipt c.in-Ok-answer.ensures.told)

pub memory_of-requires : goal.memory_of-requires
memory_of-requires g c =
    let took = has-turn c.caller.inside.seat.me (c.deref_mut.ensures.value ∙ c.state.view_is) c.take-state.ensures in
    let many : c.len.result ≡ length c.caller.inside.receipts.items = search rules in
    refused_for_memory c.deref_mut.result.now.machine (submission_id c.caller.inside.number (c.len.result + 1)) c.in-Err.error c.in-Err.ensures.refused (ap (λ (n : ℕ). n + 1) many ∙ right_number _ _ _ _ _ took c.caller.invariant)
