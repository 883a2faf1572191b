use Rattle.resil_replay.proofs.Words.{◌≡◌, ◌∙◌, Some, None, sym, position, is_same_id}
use Rattle.std.proofs.lemmas.List.Quantifiers.{position-Some}
use Rattle.resil_replay.proofs.PoolLaws.{none-placed, placed}
use Rattle.resil_replay.proofs.pool.remove_job.Goals as goal

pub returns-in-Some-clause-taken : goal.returns-in-Some-clause-taken
returns-in-Some-clause-taken c =
    let out = c.args.out.now.items in
    let id = c.args.id in
    let index = c.in-Some.index in
    let found : position (λ job. is_same_id id job.0) out ≡ Some index = rw c.deref.ensures.value at (sym c.index_of.ensures ∙ c.in-Some.is) in
    let at = position-Some (λ job. is_same_id id job.0) out index c.remove.result found in
    rw (c.remove.ensures.items, c.remove.ensures.value) (placed id out index c.remove.result at.0 at.1)

pub returns-in-None-clause-none : goal.returns-in-None-clause-none
returns-in-None-clause-none c =
    let out = c.args.out.now.items in
    let none : position (λ job. is_same_id c.args.id job.0) out ≡ None = rw c.deref.ensures.value at (sym c.index_of.ensures ∙ c.in-None.is) in
    none-placed c.args.id out none
