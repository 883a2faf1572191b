use Rattle.std.proofs.Common.{rules}
use Rattle.std.proofs.lemmas.Fn.{filter_same}
use Rattle.resil_stats.specs.Window.{is_marked}
use Rattle.resil_stats.proofs.window.Window.cut_marks.Goals as goal

pub returns : goal.returns
returns c = filter_same _ (is_marked c.args.self.now) _ (λ x b f' k. search rules) _ _ c.retain.ensures.filtered
