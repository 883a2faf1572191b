use Rattle.std.proofs.Common.{◌∙◌, add-one, drop, drop-cons, get_or, suc, sym}
use Rattle.resil_chain.specs.Rows.{parse_grant}
use Rattle.resil_input.proofs.ScriptLaws.{there-gap, there-next}
use Rattle.resil_chain.proofs.rows.parse_grants.Goals as goal

pub returns-in_default : goal.returns-in_default
returns-in_default c =
    let i = c.loop-letter.letter-index in
    let letters = c.args.letters.now in
    sym (c.loop-letter.invariant ∙ rw (drop-cons letters i 0 c.loop-letter-test.true)
    (there-gap parse_grant c.loop-letter.grants.items (get_or letters i 0) (drop (suc i) letters) (sym c.parse_grant.ensures ∙ c.in_default.is)))

pub loop-letter-preserved : goal.loop-letter-preserved
loop-letter-preserved c =
    let i = c.loop-letter.letter-index in
    let letters = c.args.letters.now in
    c.loop-letter.invariant ∙ rw (drop-cons letters i 0 c.loop-letter-test.true, c.in_ok-push.ensures.items, add-one)
    (there-next parse_grant c.loop-letter.grants.items (get_or letters i 0) (drop (suc i) letters) c.in-Some.granted (sym c.parse_grant.ensures ∙ c.in-Some.is))
