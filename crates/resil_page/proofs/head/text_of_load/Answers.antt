use Rattle.std.proofs.Common.{◌∙◌, ap}
use Rattle.resil_page.specs.Head.{load_text}
use Rattle.resil_simulate.specs.Head.{plan_of}
use Rattle.resil_page.proofs.head.text_of_load.Goals as goal

pub returns-in-Ok-load_text : goal.returns-in-Ok-load_text
returns-in-Ok-load_text c = (
  plan_of c.in-Ok.head,
  c.in-Ok.ensures,
  c.in-Ok-load_text.ensures ∙ ap (load_text c.in-Ok.head.ways c.in-Ok.head.terms) c.deref.ensures.value,
)
