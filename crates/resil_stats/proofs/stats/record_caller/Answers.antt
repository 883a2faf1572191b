use Rattle.std.proofs.Common.{◌∙◌, ap, rules, sym, subst}
use Rattle.resil_stats.specs.Stats.{HasRoomFor}
use Rattle.resil_stats.proofs.CallerLaws.{callers-submit, has-room, kept, numbers-read, other-numbers}
use Rattle.resil_stats.proofs.stats.record_caller.Goals as goal

pub returns-in_default : goal.returns-in_default
returns-in_default c = record { counted = λ h are caller. are caller ∙ sym (ap kept (other-numbers h c.args.event caller c.in_default.not-Submit)); ordered = c.requires.ordered }

pub with_submission-requires : goal.with_submission-requires
with_submission-requires c =
    let found = c.get.ensures.value ∙ c.requires.room.1 c.in-Submit.id.caller in
    let before = numbers-read c.requires.room.0 c.in-Submit.id.caller _ c.default-nothing.result c.unwrap_or-before.result found (search rules) (rw c.copied.ensures at c.unwrap_or-before.ensures) in
    subst HasRoomFor (sym before) (has-room c.requires.room.0 c.in-Submit.id.caller c.requires.room.2)

pub returns-clause-counted : goal.returns-clause-counted
returns-clause-counted c = λ h are.
    let found = c.get.ensures.value ∙ are c.in-Submit.id.caller in
    let before = numbers-read h c.in-Submit.id.caller _ c.default-nothing.result c.unwrap_or-before.result found (search rules) (rw c.copied.ensures at c.unwrap_or-before.ensures) in
    rw c.in-Submit.is (callers-submit c.args.callers.now c.insert.new.self c.in-Submit.id c.in-Submit.reply c.unwrap_or-before.result (rw (c.with_submission.ensures, c.is_accepting.ensures) at c.in_ok-insert.ensures.updates) h before are)
