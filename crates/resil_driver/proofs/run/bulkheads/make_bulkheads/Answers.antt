use Rattle.std.proofs.Common.{◌∷◌, ◌∙◌, [], sym}
use Rattle.std.proofs.lemmas.List.{map-append}
use Rattle.resil_driver.proofs.BulkheadLaws.{AreMadeFrom-all, SoFar-more, instance-named, none-left}
use Rattle.resil_driver.proofs.run.bulkheads.make_bulkheads.Goals as goal

pub make_bulkhead-requires : goal.make_bulkhead-requires
make_bulkhead-requires c = instance-named c.args.registry.now _ c.in-Some.name.now c.in-Some.permits.now c.get.ensures.kept c.in-Some.ensures.instance

pub instances-preserved : goal.instances-preserved
instances-preserved c = record {
  bulkheads = rw c.in_ok-push.ensures.items (SoFar-more c.args.registry.now c.instances.bulkheads.items c.in_ok-bulkhead.bulkhead c.in-Some.name.now c.in-Some.permits.now
      c.instances.invariant.bulkheads (rw (c.len.ensures, c.instances.bulkheads.ok.0) at c.in-Some.ensures.instance) c.in_ok-bulkhead.ensures.name c.in_ok-bulkhead.ensures.permits);
  passes = rw (c.in_ok-push-2.ensures.items, c.in_ok-push.ensures.items) (map-append _ c.instances.passes.items (c.in_ok-bulkhead.pass ∷ []) ∙ rw (c.instances.invariant.passes, c.in_ok-bulkhead.ensures.pass) (sym (map-append _ c.instances.bulkheads.items (c.in_ok-bulkhead.bulkhead ∷ []))));
}

pub returns-clause-bulkheads : goal.returns-clause-bulkheads
returns-clause-bulkheads c = AreMadeFrom-all c.args.registry.now c.instances.bulkheads.items c.instances.invariant.bulkheads (rw (c.len.ensures, c.instances.bulkheads.ok.0) at (none-left c.get.result c.len.result _ c.in_default.is c.get.ensures.found))
