use Rattle.std.proofs.Common.{rules, ◌<◌, length, List, ◌++◌, arith, ap, sym, ◌∙◌}
use Rattle.block_source.specs.declared.file.BlockPlace.{BlockPlace}
use Rattle.block_source.specs.Places.{places_in}
use Rattle.block_source.proofs.PlaceLaws.{places_more}
use Rattle.block_source.proofs.table.TableBlocks.new.Goals as goal

pub loop-file-preserved : goal.loop-file-preserved
loop-file-preserved c =
    let files = c.args.files.items in
    let file = c.loop-file.file in
    let below : file < length files = search rules in
    record {
      placed = c.in_ok-push_places.ensures.places
          ∙ ap (λ (t : List BlockPlace). t ++ places_in file c.len.result) c.loop-file.invariant.placed
          ∙ sym (places_more files file c.len.result c.one-item.result below (let a = c.one-item.is in let b = c.deref-one-items.ensures.value in search rules) (let e = c.len.ensures in search rules));
      few = omega (arith, c.in_ok-push_places.ensures.len, c.loop-file.invariant.few);
    }
