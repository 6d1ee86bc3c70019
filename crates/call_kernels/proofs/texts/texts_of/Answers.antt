-- Texts are UTF-8, and a constant is the same at each place.
use Rattle.std.proofs.Common.{◌∙◌, map, replicate, option_copied, sym, ap, subst}
use Rattle.std.specs.List.{All}
use Rattle.sub_types.specs.Nullable.{bytes_value}
use Rattle.sub_types.specs.Value.{InKind}
use Rattle.sub_types.specs.declared.kind.Kind.{Kind}
use Rattle.batch.specs.ColumnValues.{values_of}
use Rattle.batch.specs.declared.column_data.ColumnData.{ColumnData}
use Rattle.kernels.proofs.ConstantLaws.{map-replicated}
use Rattle.call_kernels.specs.Operand.{values}
use Rattle.call_kernels.specs.declared.operand.Operand.{Operand}
use Rattle.call_kernels.proofs.PlaceLaws.{texts_utf8}
use Rattle.call_kernels.proofs.texts.texts_of.Goals as goal

pub returns-in-Text-clause-utf8 : goal.returns-in-Text-clause-utf8
returns-in-Text-clause-utf8 c =
    let column = c.in-Column.column.now in
    texts_utf8 c.in-Bytes.texts
    (subst (λ (kind : Kind). All (InKind kind) (map bytes_value c.in-Bytes.texts)) c.in-Text.is
    (subst (λ (data_of : ColumnData). All (InKind column.ty.kind) (values_of data_of)) c.in-Bytes.is column.in_kind))

pub returns-in_ok-text-in-Constant-clause-values : goal.returns-in_ok-text-in-Constant-clause-values
returns-in_ok-text-in-Constant-clause-values c = λ n.
    map-replicated bytes_value n (option_copied c.in_ok-text-in-Constant.text) ∙ ap (replicate n) c.in_ok-text-in-Constant.ensures.value ∙ ap (λ (operand : Operand). values n operand) (sym c.in-Constant.is)
