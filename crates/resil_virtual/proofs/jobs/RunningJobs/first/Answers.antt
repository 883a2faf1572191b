use Rattle.resil_virtual.proofs.Words.{heap_items, Some, subst, IsSoonest, JobsView}
use Rattle.resil_virtual.proofs.RunningLaws.{front-is, top-soonest}
use Rattle.resil_virtual.proofs.jobs.RunningJobs.first.Goals as goal

pub returns-in-Some : goal.returns-in-Some
returns-in-Some c =
    let top = c.in-Some.top.now in
    subst (λ (v : JobsView). IsSoonest (Some top.0) v.items) c.self.view_is (top-soonest (heap_items c.self.inside.heap) top (front-is (heap_items c.self.inside.heap) top c.in-Some.ensures.item.3.0 c.in-Some.ensures.item.1) (c.in-Some.ensures.greatest c.self.invariant))
