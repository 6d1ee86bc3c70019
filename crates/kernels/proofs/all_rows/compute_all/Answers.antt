use Rattle.std.proofs.Common.{◌||◌, List, ◌++◌, ◌+◌, ◌-◌, length, replicate, sym, subst, ap, ◌∙◌, arith}
use Rattle.kernels.proofs.AllLaws.{length-filled, filled-more, length-more, KeepsResults, KeepsResults-none, KeepsResults-more, KeepsResults-all}
use Rattle.kernels.proofs.all_rows.compute_all.Goals as goal

pub loop-i-init : goal.loop-i-init
loop-i-init g c = record {
  results = KeepsResults-none c.args.op g.T.Native.number g.T.Native.zero c.args.range.0 c.args.range.1 c.args.a.now c.args.b.now (c.in_ok-values.values.items ++ replicate (length c.args.a.now - 0) g.T.Native.zero) (length-filled c.args.op g.T.Native.number g.T.Native.zero c.args.range.0 c.args.range.1 c.args.a.now c.args.b.now c.in_ok-values.values.items c.in_ok-values.ensures.items);
  long = ap length c.in_ok-values.ensures.items;
  room = c.in_ok-values.ensures.exact;
}

pub push_reserved-requires : goal.push_reserved-requires
push_reserved-requires g c = omega (arith, c.loop-i.invariant.long, c.loop-i.invariant.room, c.loop-i.values.ok.0, c.loop-i-test.true)

pub loop-i-preserved : goal.loop-i-preserved
loop-i-preserved g c =
    let kept = c.loop-i.invariant in
    let value = c.combine-is_lost.result.0 in
    let grown = c.push_reserved.ensures.items in
    record {
      results =
          subst (λ (all : List g.row.T.Denot). KeepsResults c.args.op g.T.Native.number g.T.Native.zero c.args.range.0 c.args.range.1 c.args.a.now c.args.b.now all (c.loop-i.i + 1) ((c.loop-i.lost || c.combine-is_lost.result.1) || c.is_beyond.result)) (sym (filled-more c.args.op g.T.Native.number g.T.Native.zero c.args.range.0 c.args.range.1 c.args.a.now c.args.b.now c.loop-i.values.items c.push_reserved.new.self.items c.loop-i.i value kept.long c.loop-i-test.true grown))
          (KeepsResults-more c.args.op g.T.Native.number g.T.Native.zero c.args.range.0 c.args.range.1 c.args.a.now c.args.b.now (c.loop-i.values.items ++ replicate (length c.args.a.now - c.loop-i.i) g.T.Native.zero) c.loop-i.i c.loop-i.lost c.combine-is_lost.result.1 c.is_beyond.result c.index-a-i.result c.index-b-i.result value kept.results c.loop-i-test.true c.index-a-i.is c.index-b-i.is c.requires c.combine-is_lost.ensures c.is_beyond.ensures);
      long = length-more c.args.op g.T.Native.number g.T.Native.zero c.args.range.0 c.args.range.1 c.args.a.now c.args.b.now c.loop-i.values.items c.push_reserved.new.self.items c.loop-i.i value kept.long grown;
      room = c.push_reserved.ensures.capacity ∙ kept.room;
    }

pub returns : goal.returns
returns g c = KeepsResults-all c.args.op g.T.Native.number g.T.Native.zero c.args.range.0 c.args.range.1 c.args.a.now c.args.b.now c.loop-i.values.items c.loop-i.i c.loop-i.lost c.loop-i.invariant.results c.loop-i-test.false c.if-lost.false
