-- Each caller is found, in the order of the numbers.
use Rattle.std.proofs.Common.{◌≡◌, ◌≢◌, ◌+◌, ◌<◌, ℕ, List, length, length-append, get_or, sym, ap, ◌∙◌, subst, arith}
use Rattle.std.specs.Prelude.{All}
use Rattle.resil_pool.specs.Words.{IsPrefix, Receipt}
use Rattle.resil_pool.specs.Lock.{own_in, LockSeatState}
use Rattle.resil_pool.specs.Parts.{CallerView}
use Rattle.resil_pool.proofs.JoinedCallers.{IsJoined, SoFar, so_far_next, still_there, all_gathered, all_left, mapped_push}
use Rattle.resil_pool.proofs.Logs.{numbering}
use Rattle.resil_pool.proofs.Submissions.{entries_of_caller}
use Rattle.resil_pool.proofs.draining.callers.join_callers.Goals as goal

pub unreachable-requires : goal.unreachable-requires
unreachable-requires c =
    still_there _ _ _ _ _ _ c.requires.numbered c.loop-below.invariant.so_far c.loop-below-test.true
    (subst (λ (xs : List CallerView). All (λ k. k.number ≢ c.loop-below.below + 1) xs) c.as_slice.ensures.value c.in_default.ensures.none)

pub loop-below-preserved : goal.loop-below-preserved
loop-below-preserved c =
    let i = c.loop-below.invariant in
    let slice = c.as_slice.ensures.value in
    let found = c.in-Some.ensures.found in
    let x = c.swap_remove.result in
    let joined = c.join.ensures in
    let inside : c.in-Some.place < length c.loop-below.callers.items = subst (λ (xs : List CallerView). c.in-Some.place < length xs) slice found.0 in
    let number : x.number ≡ c.loop-below.below + 1 = ap (λ (k : CallerView). k.number) c.swap_remove.ensures.value ∙ subst (λ (xs : List CallerView). (get_or xs c.in-Some.place x).number ≡ c.loop-below.below + 1) slice (found.1 x) in
    let seen = c.args.closer.now.me.0.seen in
    let same : c.loop-below.closer.me.0.seen ≡ seen = ap (λ (k : LockSeatState). k.0.seen) i.same in
    let caller = c.seat.inside in
    let mine : IsJoined seen x = subst (IsJoined seen) c.seat.view_is (record { begins = subst (IsPrefix caller.seat.me.0.seen) same joined.begins; own = entries_of_caller caller.seat.me caller.number caller.receipts.items seen c.seat.invariant (ap (own_in caller.seat.me.0.number) (sym same) ∙ joined.same_own numbering) }) in record {
      table = joined.source ∙ i.table;
      same = joined.same ∙ i.same;
      sources = all_left (λ k. k.source.table_id ≡ c.args.lock.now.table.shared.table_id) _ _ _ x inside c.swap_remove.ensures.value c.swap_remove.ensures.items i.sources;
      count = ap length c.push_reserved.ensures.items ∙ (length-append _ _ ∙ ap (λ (n : ℕ). n + 1) i.count);
      room = c.push_reserved.ensures.capacity ∙ i.room;
      so_far = subst (λ (lists : List (List Receipt)). SoFar c.args.callers.items c.swap_remove.new.self.items (c.loop-below.below + 1) seen lists)
          (sym (mapped_push _ _ _ _ _ c.push_reserved.ensures.items (ap (λ (k : CallerView). k.receipts) c.seat.view_is)))
          (so_far_next _ _ _ _ _ _ c.in-Some.place x i.so_far inside c.swap_remove.ensures.value c.swap_remove.ensures.items number mine);
    }

pub returns-clause-gathered : goal.returns-clause-gathered
returns-clause-gathered c =
    let end : c.loop-below.below ≡ c.args.count = omega (arith, c.loop-below-test.false, c.loop-below.auto.below-end) in
    all_gathered _ _ _ _ _ _ c.requires.numbered end c.loop-below.invariant.so_far
