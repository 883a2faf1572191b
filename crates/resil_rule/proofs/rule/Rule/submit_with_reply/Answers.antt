use Rattle.std.proofs.Common.{inl, inr}
use Rattle.resil_rule.specs.declared.event.Reply.TheVariants.{Queued, Full, Closed}
use Rattle.resil_rule.proofs.RuleLaws.{start-follows, submit-follows}
use Rattle.resil_rule.proofs.rule.Rule.submit_with_reply.Goals as goal

pub returns-in-Core-clause-follows : goal.returns-in-Core-clause-follows
returns-in-Core-clause-follows g c =
    let known = rw (← c.self.view_is) at c.requires.known in
    let next = rw (← c.self.view_is) at c.requires.next in
    let is = rw (← c.self.view_is) at c.requires.reply in
    rw (← c.self.view_is, rw c.unwrap.ensures at c.try_push_back.ensures.ok) (start-follows _ c.args.id c.args.work _ c.in-Core.is next known is)

pub returns-in-Queued-clause-follows : goal.returns-in-Queued-clause-follows
returns-in-Queued-clause-follows g c =
    let known = rw (← c.self.view_is) at c.requires.known in
    let next = rw (← c.self.view_is) at c.requires.next in
    let is = rw (← c.self.view_is, c.in-Queued.is) at c.requires.reply in
    let pushed = rw c.unwrap-in-Queued.ensures at c.try_push_back-in-Queued.ensures.ok in
    rw (← c.self.view_is, c.in-Queued.is, pushed) (submit-follows _ c.args.id c.args.work Queued next known is)

pub returns-in-Full-clause-follows : goal.returns-in-Full-clause-follows
returns-in-Full-clause-follows g c =
    let known = rw (← c.self.view_is) at c.requires.known in
    let next = rw (← c.self.view_is) at c.requires.next in
    elim c.in-Full.is [
      | inl full ↦ (let is = rw (← c.self.view_is, full) at c.requires.reply in
          rw (← c.self.view_is, full) (submit-follows _ c.args.id c.args.work Full next known is))
      | inr closed ↦ (let is = rw (← c.self.view_is, closed) at c.requires.reply in
          rw (← c.self.view_is, closed) (submit-follows _ c.args.id c.args.work Closed next known is))
    ]
