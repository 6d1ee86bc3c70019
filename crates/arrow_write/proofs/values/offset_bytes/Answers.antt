use Rattle.std.proofs.Common.{[], ◌≡◌, ◌+◌, ◌*◌, ◌++◌, ◌∙◌, ℕ, List, length, take, drop, ap, sym, subst, arith}
use Rattle.std.proofs.lemmas.List.{take_at}
use Rattle.byteorder.specs.Endian.{little_bytes}
use Rattle.sub_types.specs.Slots.{slots, length-slots}
use Rattle.arrow_write.proofs.TextEnds.{AreWritten, AreWritten-more}
use Rattle.arrow_write.proofs.values.offset_bytes.Goals as goal

pub loop-i-preserved : goal.loop-i-preserved
loop-i-preserved c =
    let texts = slots [] c.args.column.now in
    let same = length-slots [] c.args.column.now in
    let old = c.loop-i.bytes in
    let new = c.write_end.new.bytes in
    let more : AreWritten texts new (c.loop-i.i + 1) =
    AreWritten-more texts old.items new c.loop-i.i c.offset.result c.loop-i.invariant (omega (arith, same, c.loop-i-test.true)) c.offset.ensures
    (c.write_end.ensures ∙ ap (λ (bytes : List ℕ). take (4 * c.loop-i.i + 4) bytes ++ (little_bytes 4 c.offset.result ++ drop (4 * c.loop-i.i + 4 + 4) bytes)) c.deref_mut.ensures.value) in
    let long : length new ≡ old.len = more.long ∙ sym c.loop-i.invariant.long ∙ omega (arith, old.ok.0) in
    let whole : take old.len (new ++ drop (length new) old.items) ≡ new = take_at new (drop (length new) old.items) old.len long in
    subst (λ bytes. AreWritten texts bytes (c.loop-i.i + 1)) (sym whole) more
