-- What nodes are worth by the columns that were made of their parts' values.
use Rattle.std.proofs.Common.{◌≡◌, ◌∙◌, ℕ, ◌+◌, ◌<◌, ◌≤◌, List, length, map, get_or, Bool, true, Ok, IfOk, sym, ap, subst}
use Rattle.std.proofs.lemmas.List.{length-map}
use Rattle.std.specs.List.{All, range_with_len}
use Rattle.sub_types.specs.Rows.{across}
use Rattle.sub_types.specs.Value.{InKind, Fits}
use Rattle.sub_types.specs.declared.kind.Kind.{Kind}
use Rattle.sub_types.specs.declared.kind.Ty.{Ty}
use Rattle.sub_types.specs.declared.value.Value.{Value}
use Rattle.sub_types.specs.declared.value.Value.TheVariants as values
use Rattle.plan_typed.specs.declared.expr.Expr.{Expr, Expr-F}
use Rattle.plan_typed.specs.declared.expr.Expr.TheVariants as e
use Rattle.plan_typed.specs.declared.expr.Expr.TheVariants.{rolls-If, rolls-Switch, rolls-Cast}
use Rattle.plan_typed.specs.declared.expr.Func.{Func}
use Rattle.plan_typed.specs.declared.expr.Overflow.{Overflow}
use Rattle.plan_typed.specs.Types.{ty_of}
use Rattle.well_typed.specs.ExprTyped.{IsTypedOver}
use Rattle.plan_denote.specs.Computed.{Computed}
use Rattle.plan_denote.specs.Calls.{applied}
use Rattle.plan_denote.specs.Casts as casts
use Rattle.batch.specs.BatchRows.{rows_of, types_of}
use Rattle.batch.specs.ColumnValues.{values_of}
use Rattle.batch.specs.declared.batch.Batch.{Batch}
use Rattle.batch.specs.declared.column.Column.{Column}
use Rattle.kernels.specs.declared.selection.Stop.{Stop}
use Rattle.kernels.specs.Until.{Until, until}
use Rattle.eval_row.specs.Lists.{kinds_of}
use Rattle.batch_nodes.specs.Chosen.{tried, scattered}
use Rattle.batch_nodes.specs.Evaluated.{eval_at}
use Rattle.batch_nodes.specs.Found.{IsUntil, found_values, found_at}
use Rattle.batch_nodes.specs.Options.{place_of}
use Rattle.batch_nodes.specs.Parts.{is_strict, AreColumns, AreUntil, AreChosen, arm_at, literals}
use Rattle.batch_nodes.specs.Strict.{earlier, at_row}
use Rattle.batch_nodes.specs.declared.found.Found.{Found}
use Rattle.batch_nodes.specs.declared.found.Found.TheVariants.{Made}
use Rattle.batch_nodes.proofs.CallLaws.{call_type, strict_until, strict_in_kind}
use Rattle.batch_nodes.proofs.NodeUntil.{tests_of, chosen-until, if_chosen, if_within, place_at, switch_chosen, switch_places, places_within, cast_until}
use Rattle.batch_nodes.proofs.StepLaws.{AreUntil-length}
use Rattle.batch_nodes.proofs.TypedLaws.{type_in}

-- a column that was made, by the whole of what it is to be
made : (f : ℕ → Computed) (rows : List ℕ) (kind : Kind) (column : Column) (stop : Stop) (whole : Until Value) → until f rows ≡ whole → values_of column.values ≡ whole.values → stop ≡ whole.stop → kind ≡ column.ty.kind
    → IsUntil f rows kind (Made column) stop
made f rows kind column stop whole is values_are stop_is kind_is = record {
  values = values_are ∙ sym (ap (λ (found : Until Value). found.values) is);
  stop = stop_is ∙ sym (ap (λ (found : Until Value). found.stop) is);
  kind = kind_is;
}

-- ---- a call whose arguments are all evaluated

module _ (batch : Batch) (func : Func) (mode : Overflow) (args : List Expr) (ty : Ty) (typed : IsTypedOver (types_of batch) (e.Call func mode args ty)) (strict : is_strict func ≡ true)
    (rows : List ℕ) (found : List Found) (len : ℕ) (stop : Stop) (are : AreColumns args batch rows found len stop) (given : List Kind) (given_is : given ≡ kinds_of args) where
  pub call_in_kind : All (Fits (types_of batch)) (rows_of batch) → All (λ row. row < batch.rows) rows → (i : ℕ) → i < len
      → IfOk (applied func ty.kind mode given (across values.Null (map found_values found) i)) (λ value. InKind ty.kind value)
  call_in_kind fit exist i below =
      subst (λ (kinds : List Kind). IfOk (applied func ty.kind mode kinds (across values.Null (map found_values found) i)) (λ value. InKind ty.kind value)) (sym given_is)
      (strict_in_kind batch func mode args ty typed strict rows found len stop are fit exist i below)

  pub call_made : (column : Column) (its_stop out_stop : Stop)
      → values_of column.values ≡ (until (λ i. applied func ty.kind mode given (across values.Null (map found_values found) i)) (range_with_len 0 len)).values
      → its_stop ≡ (until (λ i. applied func ty.kind mode given (across values.Null (map found_values found) i)) (range_with_len 0 len)).stop
      → column.ty ≡ ty → out_stop ≡ earlier (at_row rows its_stop) stop
      → IsUntil (eval_at (e.Call func mode args ty) batch) rows (ty_of (e.Call func mode args ty)).kind (Made column) out_stop
  call_made column its_stop out_stop values_are stop_is ty_is out_is =
      made (eval_at (e.Call func mode args ty) batch) rows (ty_of (e.Call func mode args ty)).kind column out_stop
      (let placed = until (λ i. applied func ty.kind mode (kinds_of args) (across values.Null (map found_values found) i)) (range_with_len 0 len) in record { values = placed.values; stop = earlier (at_row rows placed.stop) stop })
      (strict_until batch func mode args ty typed strict rows found len stop are)
      (values_are ∙ ap (λ (kinds : List Kind). (until (λ i. applied func ty.kind mode kinds (across values.Null (map found_values found) i)) (range_with_len 0 len)).values) given_is)
      (out_is ∙ ap (λ one. earlier (at_row rows one) stop) (stop_is ∙ ap (λ (kinds : List Kind). (until (λ i. applied func ty.kind mode kinds (across values.Null (map found_values found) i)) (range_with_len 0 len)).stop) given_is))
      (ap (λ (one : Ty). one.kind) (sym (call_type batch func mode args ty typed) ∙ sym ty_is))

-- ---- a conditional

module _ (batch : Batch) (arms : List (Expr × Expr)) (other : Expr) (ty : Ty) (typed : IsTypedOver (types_of batch) (e.If arms other ty)) (rows choices : List ℕ) (stop : Stop)
    (are : AreUntil (λ i. tried (length arms) 0 (Ok (length arms)) (map (λ (arm : Expr × Expr). eval_at arm.0 batch i) arms)) rows choices stop)
    (columns : List (Found × Stop)) (count : length columns ≡ length arms + 1) where
  pub if_choices : All (λ choice. choice < length columns) choices
  if_choices =
      subst (λ n. All (λ choice. choice < n) choices) (sym count) (subst (All (λ choice. choice < length arms + 1)) (sym are.values) (if_within batch arms other ty rows))

  pub if_made : AreChosen (arm_at arms other) batch rows choices ty.kind columns → (column : Column) (out_stop : Stop)
      → values_of column.values ≡ (scattered (found_at columns) rows choices stop).values → out_stop ≡ (scattered (found_at columns) rows choices stop).stop → column.ty ≡ ty
      → IsUntil (eval_at (e.If arms other ty) batch) rows (ty_of (e.If arms other ty)).kind (Made column) out_stop
  if_made chosen column out_stop values_are stop_is ty_is =
      made (eval_at (e.If arms other ty) batch) rows (ty_of (e.If arms other ty)).kind column out_stop (scattered (found_at columns) rows choices stop)
      (sym (chosen-until (arm_at arms other) batch rows ty.kind (λ i. tried (length arms) 0 (Ok (length arms)) (tests_of batch arms i)) (eval_at (e.If arms other ty) batch) choices stop columns (if_chosen batch arms other ty) are chosen if_choices))
      values_are stop_is
      (ap (λ (one : Ty). one.kind) (sym (type_in (Expr-F.If arms other ty) (e.If arms other ty) (rolls-If arms other ty)) ∙ sym ty_is))

-- ---- a choice among literals

module _ (batch : Batch) (subject : Expr) (arms : List (Value × Expr)) (other : Expr) (ty : Ty) (typed : IsTypedOver (types_of batch) (e.Switch subject arms other ty)) (rows : List ℕ) (kind : Kind) (subjects : Found) (stop : Stop)
    (is : IsUntil (eval_at subject batch) rows kind subjects stop) (choices : List ℕ) (places : choices ≡ map (λ value. place_of value (literals arms)) (found_values subjects)) where
  switch_are : AreUntil (place_at batch subject arms other ty) rows choices stop
  switch_are = switch_places batch subject arms other ty rows kind subjects stop choices is places

  pub switch_long : length choices ≤ length rows
  switch_long = AreUntil-length (place_at batch subject arms other ty) rows choices stop switch_are

  module _ (columns : List (Found × Stop)) (count : length columns ≡ length arms + 1) where
    pub switch_choices : All (λ choice. choice < length columns) choices
    switch_choices =
        let literal_count : length (literals arms) ≡ length arms = length-map arms (λ (arm : Value × Expr). arm.0) in
        subst (λ n. All (λ choice. choice < n) choices) (sym count) (subst (λ n. All (λ choice. choice < n + 1) choices) literal_count (subst (All (λ choice. choice < length (literals arms) + 1)) (sym places) (places_within (literals arms) (found_values subjects))))

    pub switch_made : AreChosen (arm_at arms other) batch rows choices ty.kind columns → (column : Column) (out_stop : Stop)
        → values_of column.values ≡ (scattered (found_at columns) rows choices stop).values → out_stop ≡ (scattered (found_at columns) rows choices stop).stop → column.ty ≡ ty
        → IsUntil (eval_at (e.Switch subject arms other ty) batch) rows (ty_of (e.Switch subject arms other ty)).kind (Made column) out_stop
    switch_made chosen column out_stop values_are stop_is ty_is =
        made (eval_at (e.Switch subject arms other ty) batch) rows (ty_of (e.Switch subject arms other ty)).kind column out_stop (scattered (found_at columns) rows choices stop)
        (sym (chosen-until (arm_at arms other) batch rows ty.kind (place_at batch subject arms other ty) (eval_at (e.Switch subject arms other ty) batch) choices stop columns (switch_chosen batch subject arms other ty) switch_are chosen switch_choices))
        values_are stop_is
        (ap (λ (one : Ty). one.kind) (sym (type_in (Expr-F.Switch subject arms other ty) (e.Switch subject arms other ty) (rolls-Switch subject arms other ty)) ∙ sym ty_is))

-- ---- a cast

module _ (batch : Batch) (input : Expr) (null_on_fail : Bool) (ty : Ty) (rows : List ℕ) (kind : Kind) (found : Found) (stop : Stop) (is : IsUntil (eval_at input batch) rows kind found stop) where
  pub cast_made : (column : Column) (its_stop out_stop : Stop)
      → values_of column.values ≡ (until (λ i. casts.or_null null_on_fail (casts.cast (ty_of input).kind ty.kind (get_or (found_values found) i values.Null))) (range_with_len 0 (length (found_values found)))).values
      → its_stop ≡ (until (λ i. casts.or_null null_on_fail (casts.cast (ty_of input).kind ty.kind (get_or (found_values found) i values.Null))) (range_with_len 0 (length (found_values found)))).stop
      → column.ty ≡ ty → out_stop ≡ earlier (at_row rows its_stop) stop
      → IsUntil (eval_at (e.Cast input null_on_fail ty) batch) rows (ty_of (e.Cast input null_on_fail ty)).kind (Made column) out_stop
  cast_made column its_stop out_stop values_are stop_is ty_is out_is =
      made (eval_at (e.Cast input null_on_fail ty) batch) rows (ty_of (e.Cast input null_on_fail ty)).kind column out_stop
      (let placed = until (λ i. casts.or_null null_on_fail (casts.cast (ty_of input).kind ty.kind (get_or (found_values found) i values.Null))) (range_with_len 0 (length (found_values found))) in record { values = placed.values; stop = earlier (at_row rows placed.stop) stop })
      (cast_until batch input null_on_fail ty rows kind found stop is)
      values_are
      (out_is ∙ ap (λ one. earlier (at_row rows one) stop) stop_is)
      (ap (λ (one : Ty). one.kind) (sym (type_in (Expr-F.Cast input null_on_fail ty) (e.Cast input null_on_fail ty) (rolls-Cast input null_on_fail ty)) ∙ sym ty_is))
