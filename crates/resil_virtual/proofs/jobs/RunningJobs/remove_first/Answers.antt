use Rattle.resil_virtual.proofs.Words.{◌∷◌, heap_items, Some, map, sym, subst, IsSoonest, JobsView, SameJobs}
use Rattle.resil_virtual.proofs.RunningLaws.{popped-top, same-permuted, top-soonest}
use Rattle.resil_virtual.proofs.jobs.RunningJobs.remove_first.Goals as goal

pub returns-clause-first : goal.returns-clause-first
returns-clause-first c =
    let top = c.in-Some.top in let old = heap_items c.self.inside.heap in let new = heap_items c.pop.new.self in let told = c.in-Some.ensures in
    subst (λ (v : JobsView). IsSoonest (Some top.0) v.items) c.self.view_is (top-soonest old top (popped-top old new top told.permutation told.top) (told.heap_order c.self.invariant).1)

pub returns-clause-rest : goal.returns-clause-rest
returns-clause-rest c =
    let top = c.in-Some.top in let old = heap_items c.self.inside.heap in let new = heap_items c.pop.new.self in
    subst (λ (v : JobsView). SameJobs (top.0 ∷ map (λ last. last.0) new) v.items) c.self.view_is (λ of_job. sym (same-permuted old (top ∷ new) c.in-Some.ensures.permutation of_job))
