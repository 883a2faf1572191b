use Rattle.resil_stats.proofs.LoadLaws.{load-after, may-move_when}
use Rattle.resil_stats.proofs.stats.Load.after.Goals as goal

pub moved-requires : goal.moved-requires
moved-requires c = may-move_when c.args.self c.args.event c.requires

pub returns : goal.returns
returns c = λ limits h legal is. load-after limits h c.args.event legal c.args.self is c.moved.result c.moved.ensures
