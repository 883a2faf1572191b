-- One more caller gets the next number.
use Rattle.std.proofs.Common.{◌≡◌, ◌+◌, ℕ, [], ◌∷◌, ◌++◌, length, sym, ap, ◌∙◌, arith}
use Rattle.std.proofs.lemmas.List.{length-append}
use Rattle.std.proofs.lemmas.List.FromFn.{map-range_with_len_more}
use Rattle.resil_pool.specs.Parts.{caller_view, new_caller}
use Rattle.resil_lock.specs.Lock.{made_one, member_view}
use Rattle.resil_pool.specs.Lock.{LockSeatState, closer_view, pool_id}
use Rattle.resil_pool.proofs.pool.make_callers.Goals as goal

pub loop-made-preserved : goal.loop-made-preserved
loop-made-preserved c =
    let i = c.loop-made.invariant in
    let pool = pool_id c.args.lock.now.table.shared.table_id c.args.lock.now.table.shared.key in
    let opening = c.args.lock.now.table.shared.key in
    let made = c.loop-made.made in
    let table = c.admit.ensures.source in
    let me : c.admit.result.me ≡ (member_view (closer_view opening (1 + made)), []) = c.admit.ensures.me ∙ ap (λ (k : LockSeatState). (member_view k.0, [])) i.closer in
    let value : caller_view c.admit.result.table_id c.admit.result.me (made + 1) c.new.result.items ≡ new_caller pool (made + 1) = λ j. caller_view (table j) (me j) (made + 1) (c.new.ensures.items j) in record {
      table = c.admit.ensures.opener.0 ∙ i.table;
      closer = c.admit.ensures.opener.1 ∙ (ap (λ (k : LockSeatState). (made_one k.0, k.1)) i.closer ∙ ap (λ (n : ℕ). (closer_view opening n, [])) (omega arith));
      callers = c.push_reserved.ensures.items ∙ ((λ j. i.callers j ++ value j ∷ []) ∙ sym (map-range_with_len_more (new_caller pool) 1 made (made + 1) (omega arith)));
      count = ap length c.push_reserved.ensures.items ∙ (length-append _ _ ∙ ap (λ (n : ℕ). n + 1) i.count);
      room = c.push_reserved.ensures.capacity ∙ i.room;
    }
