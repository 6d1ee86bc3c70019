use Rattle.std.proofs.Common.{◌<◌, ◌^◌, [], length, get_or, arith}
use Rattle.col_text.proofs.NarrowLaws.{size_taken, next_end}
use Rattle.col_text.proofs.narrow.NarrowTexts.gather_ends.Goals as goal

pub loop-i-preserved : goal.loop-i-preserved
loop-i-preserved c =
    let texts = c.args.self.now in
    let at = c.args.at.now in
    let k = c.loop-i.i-index in
    let end = c.loop-i.end in
    let size = c.text_at-size.result.1 in
    let next = c.saturating_add-end.result in
    let held = c.loop-i.invariant in
    let below : k < length at = omega arith in
    let long = size_taken c.text_at-size.result.0.now (get_or texts (get_or at k 0) []) size c.text_at-size.ensures.within c.text_at-size.ensures.text in
    let grown = λ (low : next < 2 ^ 32).
    (let first : end < 2 ^ 32 = omega (arith, c.saturating_add-end.ensures, low) in
    next_end texts at c.loop-i.ends.items c.push_reserved.new.self.items k end size next below long (omega (arith, c.saturating_add-end.ensures, low)) low (held.ends first) (held.end first) c.push_reserved.ensures.items) in
    record {
      ends = λ low. (grown low).0;
      end = λ low. (grown low).1;
      counted = omega (arith, c.push_reserved.ensures.len, held.counted);
      room = omega (arith, c.push_reserved.ensures.capacity, held.room);
    }
