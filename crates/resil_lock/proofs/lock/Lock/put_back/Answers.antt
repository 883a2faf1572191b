-- The exchange puts the state into the slot, and the store keeps the rule.
use Rattle.std.proofs.Common.{[], ◌∷◌, Some, None, refl, sym, ap, ◌∙◌, subst, arith}
use mathlib.Core.Option.{none}
use Rattle.atomic_table.specs.Table.{Allows, step, rest}
use Rattle.resil_lock.specs.Lock.{IsLocked, AfterRelease}
use Rattle.resil_lock.proofs.LockSteps.{releases-lock, tells-at}
use Rattle.resil_lock.proofs.lock.Lock.put_back.Goals as goal

pub exchange-vacant-requires : goal.exchange-vacant-requires
exchange-vacant-requires g c = (c.requires.source, (_, c.requires.slot ∙ ap (λ xs. (0, None) ∷ xs) (ap rest (sym c.requires.slot))))

pub store-requires : goal.store-requires
store-requires g c =
    let words = c.args.self.now.one_word in
    let old = c.args.seat.now.me in
    let table = c.args.self.now.table.shared in
    let put = c.exchange-vacant.ensures.3 ∙ ap (λ xs. (old.0, (0, Some c.args.state) ∷ rest xs)) c.requires.slot in
    let released = subst (λ me. Allows (IsLocked g.S.Guarded.StandsFor g.S.Guarded.MayHaveWritten g.S.Guarded.is_own table.key) table.table_id.slots c.exchange-vacant.new.seat.id me 0 (λ _. 0) (λ _. AfterRelease g.S.Guarded.written (step table.table_id.slots 0 0 0 none) me 0)) (sym put)
    (releases-lock g.S.Guarded.StandsFor g.S.Guarded.MayHaveWritten g.S.Guarded.is_own _ g.S.Guarded.written _ _ (old.0, (0, Some c.args.state) ∷ []) c.args.state c.requires.holds refl c.requires.home c.requires.fits c.requires.own) in
    (c.exchange-vacant.ensures.0 ∙ c.requires.source, omega arith, search)

pub returns : goal.returns
returns g c =
    let put = c.exchange-vacant.ensures.3 ∙ ap (λ xs. (c.args.seat.now.me.0, (0, Some c.args.state) ∷ rest xs)) c.requires.slot in record {
      source = c.store.ensures.0 ∙ c.exchange-vacant.ensures.0;
      slot = c.store.ensures.2.slot ∙ ap (λ me. rest me.1) put;
      seen = (tells-at g.S.Guarded.written _ _ _ _ _ put c.store.ensures.2).seen c.args.state refl;
    }
