-- The join and the load after it keep the rule.
use Rattle.std.proofs.Common.{ap, ◌∙◌, arith}
use Rattle.resil_lock.proofs.LockSteps.{joins-one, ends-join, told-of-joined}
use Rattle.resil_lock.proofs.lock.Lock.join.Goals as goal

pub join_seat-requires : goal.join_seat-requires
join_seat-requires g c =
    let words = c.args.self.now.one_word in (
      c.requires.source.0,
      c.requires.source.1,
      c.requires.rest.1,
      omega arith,
      joins-one _ _ _ _ _ _ _ _ _ c.requires.holds c.requires.rest.0 c.requires.rank,
    )

pub load-requires : goal.load-requires
load-requires g c =
    let words = c.args.self.now.one_word in
    let out = c.join_seat.ensures in (
      out.0 ∙ c.requires.source.0,
      omega arith,
      ends-join _ _ _ _ _ _ _ c.args.from.me.0.number c.args.from.me.0.seen (ap (λ m. m.0.phase) out.2),
    )

pub returns : goal.returns
returns g c =
    let told = told-of-joined g.S.Guarded.MayHaveWritten g.S.Guarded.is_own _ _ c.args.holder.now.me c.join_seat.new.seat.me c.load.new.seat.me c.args.from.me.0 c.requires.holds c.join_seat.ensures.2 c.load.ensures.2 in record {
      source = c.load.ensures.0 ∙ c.join_seat.ensures.0;
      same = told.0;
      begins = told.1.begins;
      same_own = told.1.same_own;
    }
