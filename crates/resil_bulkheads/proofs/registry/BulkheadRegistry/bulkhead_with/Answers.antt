-- The id that a name has is that of a bulkhead.
use Rattle.std.proofs.Common.{◌∙◌, ap, sym, subst}
use Rattle.resil_registry.specs.Registry.{instance_id}
use Rattle.resil_bulkheads.specs.Bulkheads.{BulkheadsView, BulkheadsInvariant}
use Rattle.resil_bulkheads.proofs.BulkheadsLaws.{bulkhead_id-within}
use Rattle.resil_bulkheads.proofs.registry.BulkheadRegistry.bulkhead_with.Goals as goal

pub share-requires : goal.share-requires
share-requires c =
    let at = ap (λ (v : BulkheadsView). instance_id v.lists c.args.name.now) (sym c.self.view_is) ∙ (sym c.find.ensures.id ∙ c.in-Some.is) in
    bulkhead_id-within c.args.self.now (subst BulkheadsInvariant c.self.view_is c.self.invariant) c.args.name.now c.in-Some.id at
