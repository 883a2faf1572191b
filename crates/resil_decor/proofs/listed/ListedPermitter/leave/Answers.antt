use Rattle.std.proofs.Common.{◌≡◌, ◌==◌, Some, sym, ◌∙◌, arith}
use Rattle.std.specs.List.{position_from}
use Rattle.resil_decor.proofs.HeldPermitLaws.{some_found, first_removed}
use Rattle.resil_decor.proofs.listed.ListedPermitter.leave.Goals as goal

pub unwrap-index-requires : goal.unwrap-index-requires
unwrap-index-requires c =
    rw (c.index_of.ensures, c.deref.ensures.value) (some_found c.args.id 0 c.self.inside.held.items (rw (← c.self.view_is) at c.requires))

pub remove-requires : goal.remove-requires
remove-requires c =
    let found : position_from (λ other. other == c.args.id) 0 c.self.inside.held.items ≡ Some c.unwrap-index.result = rw c.deref.ensures.value at (sym c.index_of.ensures) ∙ c.unwrap-index.ensures in
    omega (arith, (first_removed c.args.id c.self.inside.held.items c.unwrap-index.result found).0)

pub returns-clause-held : goal.returns-clause-held
returns-clause-held c =
    let found : position_from (λ other. other == c.args.id) 0 c.self.inside.held.items ≡ Some c.unwrap-index.result = rw c.deref.ensures.value at (sym c.index_of.ensures) ∙ c.unwrap-index.ensures in
    let removed = (first_removed c.args.id c.self.inside.held.items c.unwrap-index.result found).1 in
    rw (← c.self.view_is, c.remove.ensures.items) (search)
