use Rattle.resil_virtual.proofs.Words.{◌∷◌, heap_items, map, subst, JobsView, SameJobs, begun_at}
use Rattle.resil_virtual.proofs.RunningLaws.{same-permuted}
use Rattle.resil_virtual.proofs.jobs.RunningJobs.run.Goals as goal

pub returns : goal.returns
returns c = let perm = rw c.max.ensures at c.in_ok-push.ensures.permutation in subst (λ (v : JobsView). SameJobs (begun_at c.args.at c.args.order c.args.job ∷ v.items) (map (λ last. last.0) (heap_items c.push.new.self))) c.self.view_is (same-permuted _ _ perm)
