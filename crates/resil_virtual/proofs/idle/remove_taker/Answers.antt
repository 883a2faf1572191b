use Rattle.resil_virtual.proofs.Words.{◌∙◌, sym, looks_at}
use Rattle.resil_virtual.proofs.IdleLaws.{without-none}
use Rattle.resil_virtual.proofs.idle.remove_taker.Goals as goal

pub returns : goal.returns
returns c =
    let none = sym c.if-remove_first.ensures.found in
    let same = c.if-remove_first.ensures.rest ∙ without-none (looks_at c.args.at) c.args.idle.now.items none in
    rw (c.if-own.false, none, sym same) c.remove_first-2.ensures.rest
