use Rattle.resil_replay.proofs.Words.{◌≡◌, refl, rules, header_of, parse_timed, timed_header}
use Rattle.resil_replay.proofs.timed.read_opened.Goals as goal

pub returns-then-not-has_header : goal.returns-then-not-has_header
returns-then-not-has_header c = λ body is same.
    let names : header_of c.args.opened ≡ timed_header = cc (rw is.first at same) in
    cc (c.has_header.ensures.1 names, c.if-not-has_header.true)

pub returns : goal.returns
returns c = λ body is.
    let names : header_of c.args.opened ≡ timed_header = c.has_header.ensures.0 (rw c.if-not-has_header.false refl) in
    rw names at (c.rows.ensures body parse_timed is (λ fields answer called wide. search rules))
