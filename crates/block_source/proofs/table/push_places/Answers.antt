use Rattle.std.proofs.Common.{List, [], ◌∷◌, ◌++◌, arith, append_assoc, ap, sym, ◌∙◌}
use Rattle.std.proofs.lemmas.List.FromFn.{map-range_with_len_more}
use Rattle.block_source.specs.declared.file.BlockPlace.{BlockPlace}
use Rattle.block_source.specs.Places.{place_in, places_in}
use Rattle.block_source.proofs.table.push_places.Goals as goal

pub loop-block-preserved : goal.loop-block-preserved
loop-block-preserved c =
    let before = c.args.places.now.items in
    let file = c.args.file in
    let block = c.loop-block.block in
    record {
      places = c.in_ok-push.ensures.items
          ∙ ap (λ (t : List BlockPlace). t ++ place_in file block ∷ []) c.loop-block.invariant.places
          ∙ append_assoc before (places_in file block) (place_in file block ∷ [])
          ∙ ap (λ (t : List BlockPlace). before ++ t) (sym (map-range_with_len_more (place_in file) 0 block block (omega arith)));
      len = omega (arith, c.in_ok-push.ensures.len, c.loop-block.invariant.len);
    }
