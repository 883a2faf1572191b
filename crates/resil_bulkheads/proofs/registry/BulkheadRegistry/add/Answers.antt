-- The bulkhead is at the end of the one list, and its name at the end of the other.
use Rattle.std.proofs.Common.{List, ◌∷◌, [], ◌++◌, map, length, ap, sym, ◌∙◌, subst}
use Rattle.std.proofs.lemmas.List.{map-append}
use Rattle.std.specs.Arc.{arc_value}
use Rattle.resil_bulkhead.specs.Bulkhead.{BulkheadView}
use Rattle.resil_registry.specs.Registry.{instance_id, config_of, CreatesInstance}
use Rattle.resil_bulkheads.specs.Bulkheads.{BulkheadsView, BulkheadsInvariant, bulkhead_of}
use Rattle.resil_bulkheads.proofs.ListLaws.{AllZip-length}
use Rattle.resil_bulkheads.proofs.BulkheadsLaws.{BulkheadsInvariant_with_instance, bulkhead_of-new}
use Rattle.resil_bulkheads.proofs.registry.BulkheadRegistry.add.Goals as goal

pub invariant_of-self-in-Ok-obtain_with : goal.invariant_of-self-in-Ok-obtain_with
invariant_of-self-in-Ok-obtain_with c =
    let before = sym c.self.view_is in
    let none = ap (λ (v : BulkheadsView). instance_id v.lists c.args.name.now) c.self.view_is ∙ c.requires.new in
    let configured = ap (λ (v : BulkheadsView). config_of v.lists c.args.config.now) c.self.view_is ∙ c.requires.configured in
    let made = rw none at c.in-Ok-obtain_with.ensures.made in
    let items = ap (map arc_value) c.in-Ok-push.ensures.items ∙ (map-append arc_value c.self.inside.bulkheads.items (c.in-Ok.shared ∷ []) ∙ ap (λ b. map arc_value c.self.inside.bulkheads.items ++ b ∷ []) c.in-Ok.ensures) in
    subst (λ (bulkheads : List BulkheadView). BulkheadsInvariant (record { lists = c.obtain_with.new.self; bulkheads = bulkheads })) (sym items)
    (BulkheadsInvariant_with_instance c.self.inside.names c.obtain_with.new.self c.args.name.now c.args.config.now made.index (map arc_value c.self.inside.bulkheads.items) (arc_value c.args.bulkhead) made.appended made.configured c.requires.named configured c.self.invariant)

pub returns-in-Ok-obtain_with-clause-shared : goal.returns-in-Ok-obtain_with-clause-shared
returns-in-Ok-obtain_with-clause-shared c =
    let none = ap (λ (v : BulkheadsView). instance_id v.lists c.args.name.now) c.self.view_is ∙ c.requires.new in
    let made = rw none at c.in-Ok-obtain_with.ensures.made in
    let items = ap (map arc_value) c.in-Ok-push.ensures.items ∙ (map-append arc_value c.self.inside.bulkheads.items (c.in-Ok.shared ∷ []) ∙ ap (λ b. map arc_value c.self.inside.bulkheads.items ++ b ∷ []) c.in-Ok.ensures) in
    ap (λ (bulkheads : List BulkheadView). bulkhead_of (record { lists = c.obtain_with.new.self; bulkheads = bulkheads }) c.args.name.now) items
    ∙ bulkhead_of-new c.self.inside.names c.obtain_with.new.self c.args.name.now made.index (map arc_value c.self.inside.bulkheads.items) (arc_value c.args.bulkhead) made.appended none c.self.invariant

pub returns-in-Ok-obtain_with-clause-made : goal.returns-in-Ok-obtain_with-clause-made
returns-in-Ok-obtain_with-clause-made c =
    let none = ap (λ (v : BulkheadsView). instance_id v.lists c.args.name.now) c.self.view_is ∙ c.requires.new in
    let made = rw none at c.in-Ok-obtain_with.ensures.made in
    let here : CreatesInstance c.self.inside.names c.args.name.now c.args.config.now (length (map arc_value c.self.inside.bulkheads.items)) c.obtain_with.new.self =
    record { index = made.index; configured = made.configured; numbered = AllZip-length _ c.self.inside.names.instances _ c.self.invariant.each; appended = made.appended } in
    subst (λ (v : BulkheadsView). CreatesInstance v.lists c.args.name.now c.args.config.now (length v.bulkheads) c.obtain_with.new.self) c.self.view_is here

pub returns-in-Ok-obtain_with-clause-added : goal.returns-in-Ok-obtain_with-clause-added
returns-in-Ok-obtain_with-clause-added c =
    let items = ap (map arc_value) c.in-Ok-push.ensures.items ∙ (map-append arc_value c.self.inside.bulkheads.items (c.in-Ok.shared ∷ []) ∙ ap (λ b. map arc_value c.self.inside.bulkheads.items ++ b ∷ []) c.in-Ok.ensures) in
    record {
      last = items ∙ ap (λ (v : BulkheadsView). v.bulkheads ++ arc_value c.args.bulkhead ∷ []) c.self.view_is;
      named = c.requires.named;
      permits = c.requires.configured;
    }
