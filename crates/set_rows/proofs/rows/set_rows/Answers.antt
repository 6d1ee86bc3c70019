use Rattle.std.proofs.Common.{◌≡◌, ◌∙◌, ◌≤◌, false, true, length, map, ap, sym, subst, refl, arith}
use Rattle.std.specs.List.{All, range_with_len}
use Rattle.std.proofs.lemmas.List.{length-map}
use Rattle.plan_denote.specs.GroupSets.{entry_in}
use Rattle.plan_denote.specs.Aggregate.{MAX_INPUT}
use Rattle.group_laws.specs.Columns.{column, stream_at}
use Rattle.group_tallies.specs.declared.tallies.Tallies.{Tallies}
use Rattle.group_tallies.specs.Kept.{tallies_in}
use Rattle.group_columns.specs.Columns.{count_in}
use Rattle.group_states.proofs.StateLaws.{each_of}
use Rattle.group_states.specs.States.{kept_in}
use Rattle.set_states.specs.States.{AreKept}
use Rattle.set_states.proofs.SetLaws.{set_rows}
use Rattle.set_rows.specs.Rows.{AreSized, columns_final, row_at}
use Rattle.set_rows.proofs.RowLaws.{rows_known, keys_are, alone_if}
use Rattle.set_rows.proofs.rows.set_rows.Goals as goal

pub returns-then-alone : goal.returns-then-alone
returns-then-alone c =
    λ entries known wide.
    alone_if c.args.relation c.args.width c.args.measures.now c.args.set.now entries c.args.numbered.now c.args.one.groups.keys.rows c.alone_rows.result true known.keys c.if-alone.ensures refl c.alone_rows.ensures

pub final_columns-requires-clause-known : goal.final_columns-requires-clause-known
final_columns-requires-clause-known c =
    let entries = c.requires.0 in
    let known = c.requires.1 in (
      c.args.one.groups.keys.rows,
      map (entry_in c.args.set.now) entries,
      subst (AreKept c.args.measures.now c.args.one.groups.keys.rows (map (entry_in c.args.set.now) entries)) (sym c.as_slice.ensures.value) known.firsts,
      sym c.len.ensures,
      omega (arith, c.requires.2, length-map entries (entry_in c.args.set.now)),
    )

pub final_columns-requires-clause-kinds : goal.final_columns-requires-clause-kinds
final_columns-requires-clause-kinds c = c.requires.1.kept

pub final_columns-requires-clause-sized : goal.final_columns-requires-clause-sized
final_columns-requires-clause-sized c = subst (λ n. All (λ tallies. length (tallies_in tallies) ≡ n) c.args.one.groups.columns.items) (sym c.len.ensures) c.requires.1.sound.sized

pub final_columns-requires-clause-few : goal.final_columns-requires-clause-few
final_columns-requires-clause-few c =
    let known = c.requires.1 in
    each_of (λ (tallies : Tallies). count_in (tallies_in tallies) ≤ c.args.one.groups.rows) (λ (tallies : Tallies). count_in (tallies_in tallies) ≤ MAX_INPUT)
    (λ tallies h. omega (arith, h, set_rows c.args.measures.now c.args.set.now c.requires.0 c.args.one known, c.requires.2)) c.args.one.groups.columns.items known.sound.counted

pub group_rows-requires : goal.group_rows-requires
group_rows-requires c =
    let e = c.in_ok-columns.ensures in
    subst (λ n. AreSized c.args.measures.now n c.as_slice-2.result.now) (c.len.ensures ∙ sym (ap length c.rows.ensures)) (subst (AreSized c.args.measures.now c.len.result) (sym c.as_slice-2.ensures.value) e.sized)

pub returns : goal.returns
returns c =
    let measures = c.args.measures.now in
    let set = c.args.set.now in
    let numbered = c.args.numbered.now in
    let keys = c.args.one.groups.keys.rows in
    let e = c.in_ok-columns.ensures in
    λ entries known wide.
    let columns : map kept_in c.as_slice-2.result.now ≡ columns_final 0 measures (map (entry_in set) entries) keys =
    ap (map kept_in) c.as_slice-2.ensures.value
    ∙ e.tallies keys (map (entry_in set) entries) known.knows.columns (subst (AreKept measures keys (map (entry_in set) entries)) (sym c.as_slice.ensures.value) known.firsts) known.sound.kept.once (sym c.len.ensures) in
    c.in_ok-out.ensures
    ∙ ap (λ l. stream_at c.args.relation (column (row_at measures l c.as_slice-2.result.now numbered) (range_with_len 0 (length l)))) c.rows.ensures
    ∙ rows_known c.args.relation c.args.width measures set entries keys c.as_slice-2.result.now numbered (keys_are c.args.width set entries keys false known.keys wide c.if-alone.ensures refl) columns
