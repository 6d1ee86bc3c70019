-- The input's values are those at the rows before its stop.
use Rattle.std.proofs.Common.{◌≡◌, ℕ, ◌<◌, sym, subst, get_or, length, IfOk}
use Rattle.std.specs.List.{range_with_len}
use Rattle.sub_types.specs.Value.{InKind}
use Rattle.sub_types.specs.declared.kind.Ty.{Ty}
use Rattle.sub_types.specs.declared.value.Value.TheVariants.{Null}
use Rattle.plan_typed.specs.Types.{ty_of}
use Rattle.plan_denote.specs.Casts.{cast, or_null}
use Rattle.batch.specs.ColumnValues.{values_of}
use Rattle.kernels.specs.Until.{until}
use Rattle.batch_nodes.specs.Found.{found_values}
use Rattle.batch_nodes.proofs.NodeUntil.{cast_valid, cast_in_kind}
use Rattle.eval_batch.proofs.ValueLaws.{cast_made}
use Rattle.eval_batch.proofs.nodes.cast_values.Goals as goal

pub cast_column-requires : goal.cast_column-requires
cast_column-requires c =
    let input = c.args.input.now in
    let xs = found_values c.args.values.now in
    record {
      valid_kind = cast_valid c.args.batch.now input c.args.null_on_fail c.args.ty c.requires.typed;
      in_kind = subst (λ (one : Ty). (i : ℕ) → i < length xs → IfOk (or_null c.args.null_on_fail (cast one.kind c.args.ty.kind (get_or xs i Null))) (λ value. InKind c.args.ty.kind value)) (sym c.ty.ensures)
          (cast_in_kind c.args.batch.now input c.args.null_on_fail c.args.ty c.args.rows.now (ty_of input).kind c.args.values.now c.args.stop c.requires.values c.requires.typed c.requires.fit c.requires.exist);
    }

pub returns : goal.returns
returns c =
    let input = c.args.input.now in
    let xs = found_values c.args.values.now in
    let out = c.in_ok-column in
    let values_are = subst (λ (one : Ty). values_of out.column.values ≡ (until (λ i. or_null c.args.null_on_fail (cast one.kind c.args.ty.kind (get_or xs i Null))) (range_with_len 0 (length xs))).values) c.ty.ensures out.ensures.values in
    let stop_is = subst (λ (one : Ty). out.its_stop ≡ (until (λ i. or_null c.args.null_on_fail (cast one.kind c.args.ty.kind (get_or xs i Null))) (range_with_len 0 (length xs))).stop) c.ty.ensures out.ensures.stop in
    cast_made c.args.batch.now input c.args.null_on_fail c.args.ty c.args.rows.now (ty_of input).kind c.args.values.now c.args.stop c.requires.values out.column out.its_stop c.stop_of.result values_are stop_is out.ensures.ty c.stop_of.ensures
