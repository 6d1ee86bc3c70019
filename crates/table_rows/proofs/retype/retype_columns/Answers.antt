use Rattle.std.proofs.Common.{◌≡◌, ◌∙◌, ◌<◌, length, get_or, false, sym, ap, arith}
use Rattle.sub_types.specs.declared.kind.Kind.TheVariants as kinds
use Rattle.sub_types.specs.declared.kind.Ty.{Ty}
use Rattle.batch.specs.Column.{column_values}
use Rattle.batch.specs.ColumnValues.{values_of}
use Rattle.table_rows.proofs.RetypeLaws.{kind_at, length-kinds, map-set_same, kinds-set_same, types-more}
use Rattle.table_rows.proofs.retype.retype_columns.Goals as goal

pub retype-requires : goal.retype-requires
retype-requires c =
    let none : Ty = record { kind = kinds.Bool; nullable = false } in
    kind_at c.loop-i.columns c.args.types.now c.loop-i.i c.index-columns-i.result none c.loop-i.invariant.kinds c.loop-i-test.true

pub loop-i-preserved : goal.loop-i-preserved
loop-i-preserved c =
    let none : Ty = record { kind = kinds.Bool; nullable = false } in
    let columns = c.loop-i.columns in
    let types = c.args.types.now in
    let i = c.loop-i.i in
    let old = c.index-columns-i.result in
    let new = c.retype.new.column in
    let typed : i < length types = c.loop-i-test.true in
    let within : i < length columns = omega (arith, length-kinds columns types c.loop-i.invariant.kinds) in
    let kind : new.ty.kind ≡ (get_or columns i old).ty.kind = ap (λ (ty : Ty). ty.kind) c.retype.ensures.ty ∙ sym (kind_at columns types i old none c.loop-i.invariant.kinds typed) in
    record {
      kinds = kinds-set_same columns i new old kind ∙ c.loop-i.invariant.kinds;
      values = map-set_same column_values columns i new old (ap values_of c.retype.ensures.values) ∙ c.loop-i.invariant.values;
      types = types-more columns types i new none within typed c.retype.ensures.ty c.loop-i.invariant.types;
    }
