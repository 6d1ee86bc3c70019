use Rattle.std.proofs.Common.{◌≡◌, ◌∙◌, ◌<◌, ◌≤◌, ◌++◌, ◌∷◌, [], length, map, drop, All, ap, sym, subst, arith, append_assoc}
use Rattle.std.proofs.lemmas.List.{drop_all, map-append, append-nil}
use Rattle.std.proofs.lemmas.List.Elements.{All-push, All-get_or}
use Rattle.plan_typed.specs.declared.rel.SetMeasure.{SetMeasure}
use Rattle.group_columns.specs.declared.taken.Taken.{Taken}
use Rattle.batch.specs.declared.column.Column.{Column}
use Rattle.batch.specs.Column.{column_values}
use Rattle.batch.specs.ColumnValues.{values_of}
use Rattle.group_laws.specs.Columns.{zipped}
use Rattle.group_columns.specs.Columns.{IsWhole}
use Rattle.set_inputs.specs.Inputs.{values_once}
use Rattle.set_inputs.proofs.SpreadLaws.{once_done, once_long, nulls_long}
use Rattle.set_inputs.proofs.inputs.widened.Goals as goal

pub loop-place-init : goal.loop-place-init
loop-place-init c =
    let rows = c.args.rows in
    let nulls = c.in_ok-nulls.field-0 in
    let items = c.in_ok-push.ensures.items in
    let pairs = zipped (λ (m : SetMeasure) (t : Taken). values_once rows m.distinct t) c.args.measures.now c.args.taken.now in
    record {
      sized = subst (All (λ (column : Column). length (values_of column.values) ≡ rows)) (sym items) (All-push (λ (column : Column). length (values_of column.values) ≡ rows) c.args.columns.items nulls c.requires.sized (ap length c.in_ok-nulls.ensures ∙ nulls_long rows));
      values =
          ap (λ l. map column_values l ++ pairs) items
          ∙ ap (λ l. l ++ pairs) (map-append column_values c.args.columns.items (nulls ∷ []))
          ∙ append_assoc (map column_values c.args.columns.items) (column_values nulls ∷ []) pairs
          ∙ ap (λ l. map column_values c.args.columns.items ++ l ∷ pairs) c.in_ok-nulls.ensures;
    }

pub loop-place-preserved : goal.loop-place-preserved
loop-place-preserved c =
    let l = c.loop-place in
    let rows = c.args.rows in
    let measures = c.args.measures.now in
    let taken = c.args.taken.now in
    let g : l.place < length taken = omega (arith, c.loop-place-test.true) in
    let h : l.place < length measures = omega (arith, g, c.requires.all) in
    let column = c.in_ok-column.column in
    let items = c.in_ok-push-2.ensures.items in
    let one = c.index-taken-place.result in
    let e : column_values column ≡ values_once rows c.index-measures-place.result.distinct one = c.in_ok-column.ensures ∙ ap (λ (m : SetMeasure). values_once rows m.distinct one) (sym c.index-measures-place.is) in
    let whole : IsWhole rows one = subst (IsWhole rows) (sym c.index-taken-place.is) (All-get_or (IsWhole rows) taken l.place one g c.requires.whole) in
    record {
      sized = subst (All (λ (column : Column). length (values_of column.values) ≡ rows)) (sym items) (All-push (λ (column : Column). length (values_of column.values) ≡ rows) l.columns.items column l.invariant.sized (ap length e ∙ once_long rows c.index-measures-place.result.distinct one whole));
      values =
          once_done rows l.place measures taken (map column_values l.columns.items) _ c.index-measures-place.result c.index-taken-place.result h g c.index-measures-place.is c.index-taken-place.is
          (ap (map column_values) items ∙ map-append column_values l.columns.items (column ∷ []) ∙ ap (λ x. map column_values l.columns.items ++ x ∷ []) e)
          ∙ l.invariant.values;
    }

pub returns-clause-values : goal.returns-clause-values
returns-clause-values c =
    let l = c.loop-place in
    let rows = c.args.rows in
    let done : length c.args.taken.now ≤ l.place = omega (arith, c.loop-place-test.false) in
    let over : length c.args.measures.now ≤ l.place = omega (arith, done, c.requires.all) in
    sym (append-nil (map column_values l.columns.items))
    ∙ ap (λ ms. map column_values l.columns.items ++ zipped (λ (m : SetMeasure) (t : Taken). values_once rows m.distinct t) ms (drop l.place c.args.taken.now)) (sym (drop_all l.place c.args.measures.now over))
    ∙ l.invariant.values
