use Rattle.std.proofs.Common.{◌≡◌, ◌∙◌, ◌≤◌, ◌∷◌, ◌++◌, [], length, map, ap, sym, subst, refl, arith}
use Rattle.plan_denote.specs.Join.{nulls}
use Rattle.plan_denote.specs.Aggregate.{MAX_INPUT}
use Rattle.group_tallies.specs.declared.tallies.Tallies.{Tallies}
use Rattle.group_tallies.specs.Kept.{tallies_in}
use Rattle.group_columns.specs.Columns.{count_in}
use Rattle.group_laws.specs.Columns.{column, stream_at}
use Rattle.std.specs.List.{range_with_len}
use Rattle.group_states.specs.States.{kept_in, columns_kept}
use Rattle.group_states.proofs.StateLaws.{each_of}
use Rattle.set_states.specs.States.{keeping}
use Rattle.set_rows.specs.Rows.{AreSized, row_at}
use Rattle.set_rows.proofs.RowLaws.{rows_known, none_final}
use Rattle.set_rows.proofs.rows.alone_rows.Goals as goal

pub group_rows-requires : goal.group_rows-requires
group_rows-requires c =
    let groups = c.in_ok-groups.groups in
    let e = c.in_ok-groups.ensures in
    let columns = groups.columns.items in
    let keys : length c.as_slice-2.result.now ≡ 1 = ap length (c.as_slice-2.ensures.value ∙ c.in_ok-push.ensures.items ∙ ap (λ l. l ++ c.in_ok-key.key ∷ []) c.new-keys.ensures.items) in
    let one : length groups.keys.rows ≡ 1 = ap length e.keys in
    subst (AreSized c.args.measures.now (length c.as_slice-2.result.now)) (sym c.as_slice-3.ensures.value) (record {
      kinds = e.keeping ∙ c.as_slice.ensures.value ∙ c.in_ok-keepings.ensures;
      sized = each_of (λ (tallies : Tallies). length (tallies_in tallies) ≡ length groups.keys.rows) (λ (tallies : Tallies). length (tallies_in tallies) ≡ length c.as_slice-2.result.now) (λ tallies h. h ∙ one ∙ sym keys) columns e.sound.sized;
      few = each_of (λ (tallies : Tallies). count_in (tallies_in tallies) ≤ groups.rows) (λ (tallies : Tallies). count_in (tallies_in tallies) ≤ MAX_INPUT) (λ tallies h. omega (arith, h, e.knows.rows)) columns e.sound.counted;
    })

pub returns : goal.returns
returns c =
    let groups = c.in_ok-groups.groups in
    let e = c.in_ok-groups.ensures in
    let measures = c.args.measures.now in
    let numbered = c.args.numbered.now in
    let key = nulls c.args.width in
    let keys : c.as_slice-2.result.now ≡ key ∷ [] = c.as_slice-2.ensures.value ∙ c.in_ok-push.ensures.items ∙ ap (λ l. l ++ c.in_ok-key.key ∷ []) c.new-keys.ensures.items ∙ ap (λ k. k ∷ []) c.in_ok-key.ensures in
    let kinds = c.as_slice.ensures.value ∙ c.in_ok-keepings.ensures in
    let columns : map kept_in c.as_slice-3.result.now ≡ columns_kept 0 (map keeping measures) [] ([] ∷ []) =
    ap (map kept_in) c.as_slice-3.ensures.value ∙ e.knows.columns ∙ ap (λ ks. columns_kept 0 ks [] groups.keys.rows) kinds ∙ ap (columns_kept 0 (map keeping measures) []) e.keys in
    c.in_ok-out.ensures
    ∙ ap (λ l. stream_at c.args.relation (column (row_at measures l c.as_slice-3.result.now numbered) (range_with_len 0 (length l)))) keys
    ∙ rows_known c.args.relation c.args.width measures [] [] (key ∷ []) c.as_slice-3.result.now numbered refl (columns ∙ none_final 0 measures [] key)
