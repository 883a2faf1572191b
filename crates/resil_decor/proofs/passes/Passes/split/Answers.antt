use Rattle.std.proofs.Common.{◌≡◌, ◌<◌, length, arith, ap, sym, ◌∙◌}
use Rattle.std.proofs.Math.Seq.{take-length}
use Rattle.resil_decor.specs.Passes.{sources_of}
use Rattle.resil_decor.proofs.PassesLaws.{source_at, same_length, put_back, AreSplitFrom-more, sources_of-split}
use Rattle.resil_decor.proofs.passes.Passes.split.Goals as goal

pub loop-index-init : goal.loop-index-init
loop-index-init g c = record {
  unchanged = c.self.view_is;
  split = rw c.in_ok-passes.ensures.items tt;
  room = omega (arith, ap length c.self.view_is, c.len.ensures, c.in_ok-passes.ensures.capacity);
  as_many = omega (arith, c.in_ok-passes.ensures.len);
  sources = c.self.invariant;
}

pub bounds-self-inside-index : goal.bounds-self-inside-index
bounds-self-inside-index g c =
    let same = same_length c.loop-index.self-inside.passes.items c.loop-index.self-inside.bulkheads.now c.loop-index.invariant.sources in
    omega (arith, same, ap length c.loop-index.invariant.unchanged, ap length c.self.view_is)

pub split-pass-requires : goal.split-pass-requires
split-pass-requires g c =
    let inside : c.loop-index.index < length c.loop-index.self-inside.passes.items = omega (arith, ap length c.loop-index.invariant.unchanged, ap length c.self.view_is) in
    ap (λ pass. pass.source) c.index_mut.ensures.value
    ∙ source_at c.loop-index.self-inside.passes.items c.loop-index.self-inside.bulkheads.now c.loop-index.index c.index_mut.result.now c.index-self-index.result inside c.loop-index.invariant.sources

pub push_reserved-requires : goal.push_reserved-requires
push_reserved-requires g c = omega (arith, ap length c.self.view_is, c.loop-index.invariant.room, c.loop-index.invariant.as_many)

pub loop-index-preserved : goal.loop-index-preserved
loop-index-preserved g c =
    let before = c.loop-index.invariant in
    let split = c.split-pass.ensures in
    let back = put_back c.loop-index.self-inside.passes.items c.loop-index.index c.index_mut.result.now c.split-pass.new.pass
    c.index_mut.ensures.value split.old in
    let more = AreSplitFrom-more c.args.self.now c.loop-index.passes.items c.loop-index.index c.index_mut.result.now c.split-pass.result
    before.split (omega (arith, ap length c.self.view_is)) (rw before.unchanged at c.index_mut.ensures.value)
    (record { source = split.source; seen = split.seen; number = split.number.0; own = split.number.1; held = split.held }) in
    record {
      unchanged = back ∙ before.unchanged;
      split = rw c.push_reserved.ensures.items more;
      room = omega (arith, before.room);
      as_many = omega (arith, before.as_many);
      sources = ap sources_of back ∙ before.sources;
    }

pub returns-clause-split : goal.returns-clause-split
returns-clause-split g c =
    let whole : c.loop-index.index ≡ length c.args.self.now = omega (arith, ap length c.self.view_is) in
    rw (whole, take-length c.args.self.now) at c.loop-index.invariant.split

pub invariant_of-result : goal.invariant_of-result
invariant_of-result g c =
    sources_of-split c.args.self.now c.loop-index.passes.items (returns-clause-split g c)
    ∙ sym (ap sources_of c.loop-index.invariant.unchanged) ∙ c.loop-index.invariant.sources

pub invariant_of-self : goal.invariant_of-self
invariant_of-self g c = c.loop-index.invariant.sources

pub returns-clause-old : goal.returns-clause-old
returns-clause-old g c = c.loop-index.invariant.unchanged
