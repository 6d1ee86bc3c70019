use Rattle.std.proofs.Common.{arith}
use Rattle.std.proofs.lemmas.List.{length-take-le}
use Rattle.col_text.proofs.NarrowLaws.{block_cut}
use Rattle.col_text.proofs.narrow.push_first.Goals as goal

pub returns : goal.returns
returns c =
    let old = c.args.bytes.now.items in
    let more = c.args.more.now in
    record {
      ok = block_cut old more c.extend_from_slice-2.new.self.items c.truncate.new.self.items _ c.args.size 16 c.in_ok-extend_from_slice-2.ensures.items c.truncate.ensures.items
          (omega (arith, c.args.bytes.now.ok, c.len.ensures, c.in_ok-extend_from_slice-2.ensures.len, length-take-le 16 more (omega arith))) (omega arith);
    }
