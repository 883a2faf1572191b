-- At first every caller is idle and holds nothing.
use Rattle.resil_permit.proofs.Following.{follows_start}
use Rattle.resil_permit.proofs.word_machine.WordMachine.new.Goals as goal

pub returns : goal.returns
returns c = follows_start c.args.max _ c.requires (c.in_ok-callers.ensures.items_if_clones_equal (λ y e. e))
