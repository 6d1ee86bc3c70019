use Rattle.std.proofs.Common.{◌∙◌, map, ◌++◌, ◌∷◌, [], ap, sym, arith}
use Rattle.std.specs.List.{range_with_len}
use Rattle.std.proofs.lemmas.List.FromFn.{map-range_with_len_more}
use Rattle.sort_merge.specs.Prefix.{prefixed_at, shortened, packed}
use Rattle.sort_merge.proofs.prefixes.prefixed_rows.Goals as goal

pub loop-row-preserved : goal.loop-row-preserved
loop-row-preserved c =
    let each = prefixed_at c.args.scale.now c.args.keys.now c.args.batch.now in
    let row = c.loop-row.row in
    c.in_ok-push.ensures.items ∙ ap (λ rows. rows ++ c.packed.result ∷ []) c.loop-row.invariant
    ∙ ap (λ one. map each (range_with_len 0 row) ++ one ∷ []) (c.packed.ensures ∙ ap (λ prefix. packed prefix row) (c.shortened.ensures.shortened ∙ ap (shortened c.args.scale.now) c.key_prefix.ensures))
    ∙ sym (map-range_with_len_more each 0 row row (omega arith))
