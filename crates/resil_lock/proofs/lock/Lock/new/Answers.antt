-- The rule holds for the state in the slot and the first seat.
use Rattle.std.proofs.Common.{◌≡◌, List, [], ◌∷◌, Option, Some, map, sym, subst, rules}
use mathlib.Core.Option as m
use Rattle.resil_lock.specs.Lock.{LockInvariant, first_view}
use Rattle.resil_lock.proofs.LockSteps.{opens-lock}
use Rattle.resil_lock.proofs.lock.Lock.new.Goals as goal

pub new-requires : goal.new-requires
new-requires g c =
    let items : c.push_reserved.new.self.items ≡ Some c.args.state ∷ [] = search rules in
    subst (λ (xs : List (Option g.row.S.Denot)). LockInvariant g.S.Guarded.StandsFor g.S.Guarded.MayHaveWritten g.S.Guarded.is_own c.args.key.now (0 ∷ []) (map m.some xs) (first_view c.args.key.now ∷ [])) (sym items)
    (opens-lock g.S.Guarded.StandsFor g.S.Guarded.MayHaveWritten g.S.Guarded.is_own c.args.key.now c.args.state c.requires.home c.requires.blank)
