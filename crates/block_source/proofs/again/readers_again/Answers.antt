use Rattle.std.proofs.Common.{◌<◌, None, length, map, arith, ap, sym, ◌∙◌}
use Rattle.std.proofs.lemmas.List.{get_or-map, length-map}
use Rattle.std.proofs.lemmas.List.Sums.{sum_by-set}
use Rattle.world.specs.Reads.{IsFresh}
use Rattle.hand_off.proofs.Popping.{pushed_all}
use Rattle.crew_round.proofs.Giving.{set_map}
use Rattle.block_source.proofs.Joining.{same_push}
use Rattle.block_source.proofs.again.readers_again.Goals as goal

pub returns-in_err-second-clause-bytes : goal.returns-in_err-second-clause-bytes
returns-in_err-second-clause-bytes g c =
    let rs = c.loop-index.readers.items in
    let below : c.loop-index.index < length rs = omega (arith, c.loop-index-test.true, c.len-count.ensures, c.loop-index.invariant.len, c.loop-index.readers.ok.0) in
    set_map g.R.Reader.bytes rs c.loop-index.index c.index_mut.result.now c.again.new.self below (c.again.ensures.bytes ∙ ap g.R.Reader.bytes c.index_mut.ensures.value)
    ∙ c.loop-index.invariant.bytes

pub returns-in_err-second-clause-reads : goal.returns-in_err-second-clause-reads
returns-in_err-second-clause-reads g c =
    let rs = c.loop-index.readers.items in
    let below : c.loop-index.index < length rs = omega (arith, c.loop-index-test.true, c.len-count.ensures, c.loop-index.invariant.len, c.loop-index.readers.ok.0) in
    set_map g.R.Reader.reads rs c.loop-index.index c.index_mut.result.now c.again.new.self below (c.again.ensures.reads ∙ ap g.R.Reader.reads c.index_mut.ensures.value)
    ∙ c.loop-index.invariant.reads

pub loop-index-preserved : goal.loop-index-preserved
loop-index-preserved g c =
    let rs = c.loop-index.readers.items in
    let i = c.loop-index.index in
    let x = c.index_mut.result.now in
    let y = c.again.new.self in
    let second = c.in_ok-second.second in
    let before = c.loop-index.invariant in
    let below : i < length rs = omega (arith, c.loop-index-test.true, c.len-count.ensures, before.len, c.loop-index.readers.ok.0) in
    record {
      same = same_push g.R.Reader.bytes c.loop-index.seconds.items c.push_reserved.new.self.items second (map g.R.Reader.bytes c.args.readers.now.items) (map g.R.Reader.bytes rs) i None
          c.push_reserved.ensures.items before.same before.bytes
          (omega (arith, below, length-map rs g.R.Reader.bytes))
          (c.in_ok-second.ensures.same ∙ ap g.R.Reader.bytes c.index_mut.ensures.value ∙ sym (get_or-map g.R.Reader.bytes rs i x None below));
      fresh = pushed_all (λ r. IsFresh (g.R.Reader.faults r) (g.R.Reader.reads r)) c.loop-index.seconds.items c.push_reserved.new.self.items second
          c.push_reserved.ensures.items before.fresh c.in_ok-second.ensures.fresh;
      bytes = set_map g.R.Reader.bytes rs i x y below (c.again.ensures.bytes ∙ ap g.R.Reader.bytes c.index_mut.ensures.value) ∙ before.bytes;
      reads = set_map g.R.Reader.reads rs i x y below (c.again.ensures.reads ∙ ap g.R.Reader.reads c.index_mut.ensures.value) ∙ before.reads;
      faults = omega (arith, before.faults, sum_by-set g.R.Reader.faults rs i y x below, c.in_ok-second.ensures.cause.never_falls, ap g.R.Reader.faults c.index_mut.ensures.value);
      len = before.len;
      filled = omega (arith, before.filled, c.push_reserved.ensures.len);
      room = omega (arith, before.room, c.push_reserved.ensures.capacity);
    }
