use Rattle.std.proofs.Common.{◌∙◌, map, sym, ap}
use Rattle.batch.specs.ColumnValues.{values_of}
use Rattle.table_rows.specs.Read.{is_there}
use Rattle.table_rows.proofs.PlaceLaws.{bools_there, ints_there, decs_there, bytes_there}
use Rattle.table_rows.proofs.columns.validity.Goals as goal

pub returns-in-Bool : goal.returns-in-Bool
returns-in-Bool c = c.validity.ensures ∙ bools_there c.in-Bool.column ∙ ap (λ values. map is_there (values_of values)) (sym c.in-Bool.is)

pub returns-in-I8 : goal.returns-in-I8
returns-in-I8 c = c.validity-in-I8.ensures ∙ ints_there c.in-I8.column ∙ ap (λ values. map is_there (values_of values)) (sym c.in-I8.is)

pub returns-in-I16 : goal.returns-in-I16
returns-in-I16 c = c.validity-in-I16.ensures ∙ ints_there c.in-I16.column ∙ ap (λ values. map is_there (values_of values)) (sym c.in-I16.is)

pub returns-in-I32 : goal.returns-in-I32
returns-in-I32 c = c.validity-in-I32.ensures ∙ ints_there c.in-I32.column ∙ ap (λ values. map is_there (values_of values)) (sym c.in-I32.is)

pub returns-in-I64 : goal.returns-in-I64
returns-in-I64 c = c.validity-in-I64.ensures ∙ ints_there c.in-I64.column ∙ ap (λ values. map is_there (values_of values)) (sym c.in-I64.is)

pub returns-in-I128 : goal.returns-in-I128
returns-in-I128 c = c.validity-in-I128.ensures ∙ decs_there c.in-I128.column ∙ ap (λ values. map is_there (values_of values)) (sym c.in-I128.is)

pub returns-in-Bytes : goal.returns-in-Bytes
returns-in-Bytes c = c.validity-in-Bytes.ensures ∙ bytes_there c.in-Bytes.column ∙ ap (λ values. map is_there (values_of values)) (sym c.in-Bytes.is)
