use Rattle.std.proofs.Common.{◌≡◌, ◌∙◌, ◌<◌, ◌≤◌, ◌++◌, Bool, true, length, map, drop, get_or, refl, ap, sym, subst}
use Rattle.std.proofs.lemmas.List.{drop_all, append-nil}
use Rattle.sub_types.specs.declared.value.Value.TheVariants.{Null}
use Rattle.plan_denote.specs.Computed.{is_true}
use Rattle.batch.specs.Column.{column_values}
use Rattle.group_laws.specs.Columns.{spread}
use Rattle.group_columns.specs.Columns.{values_or_true}
use Rattle.group_columns.proofs.StepLaws.{trues_done, value_there, place_done}
use Rattle.group_firsts.specs.Firsts.{or_null}
use Rattle.set_inputs.proofs.SpreadLaws.{spread_done}
use Rattle.set_inputs.proofs.values.spread_column.Goals as goal

pub loop-row-preserved : goal.loop-row-preserved
loop-row-preserved c =
    let l = c.loop-row in
    let tests = values_or_true c.args.rows c.args.tests.now in
    let values = column_values c.args.values.now in
    let b : Bool = is_true (get_or tests l.row Null) in
    let h : l.row < length tests = subst (λ n. l.row < n) (sym c.requires.tests) c.loop-row-test.true in
    let there : b ≡ true → l.place < length values = λ e. value_there tests l.row l.place (length values) h l.invariant.left e in
    let e = c.in_ok-place.ensures in
    record {
      values = spread_done tests values l.builder.values c.push_row.new.builder.values l.row l.place c.in_ok-place.place b h there refl e.values e.next ∙ l.invariant.values;
      kind = e.ty ∙ l.invariant.kind;
      behind = place_done l.row l.place c.in_ok-place.place b e.next l.invariant.behind;
      left = trues_done tests l.row l.place c.in_ok-place.place (length values) b h refl e.next l.invariant.left;
    }

pub returns : goal.returns
returns c =
    let l = c.loop-row in
    let tests = values_or_true c.args.rows c.args.tests.now in
    let values = column_values c.args.values.now in
    let done : length tests ≤ l.row = subst (λ n. n ≤ l.row) (sym c.requires.tests) c.loop-row-test.false in
    c.finish.ensures.values
    ∙ sym (append-nil l.builder.values)
    ∙ ap (λ ts. l.builder.values ++ map or_null (spread ts (drop l.place values))) (sym (drop_all l.row tests done))
    ∙ l.invariant.values
