-- The rows and the types that grouping sets give.
use Rattle.std.specs.Prelude.{◌≡◌, List, ◌++◌, map}
use Rattle.std.specs.List.{enumerate_from}
use Rattle.sub_types.specs.declared.kind.Ty.{Ty}
use Rattle.sub_types.specs.Stream.{Stream}
use Rattle.plan_typed.specs.declared.rel.SetMeasure.{SetMeasure}
use Rattle.well_typed.specs.Columns.{group_type, number_column}
use Rattle.plan_denote.specs.Rows.{Row, from_all}
use Rattle.plan_denote.specs.Aggregate.{Entry}
use Rattle.plan_denote.specs.GroupSets.{rows_of_sets}
use Rattle.plan_denote.specs.Denote.{any_measure}
use Rattle.plan_pipes.specs.RowMeaning.{sets_of}
use Rattle.rel_specs.specs.declared.groups.SetSpec.{SetSpec}
use Rattle.set_rows.specs.declared.rows.Rows.{Rows}
use Rattle.set_rows.specs.Rows.{seen}
use Rattle.group_sets.specs.declared.state.State.{State}
use Rattle.group_sets.specs.States.{Holds, width_of}

-- the rows that the sets give of all rows
abbrev pub rows_by : SetSpec → Stream Entry → Stream Row
rows_by spec = from_all (rows_of_sets spec.relation (width_of spec) (sets_of spec) (map any_measure spec.measures.items))

-- the types of the rows: a group's column may be null where a set lacks it, and the number of the set comes last, where there are several
abbrev pub types_by : SetSpec → List Ty
types_by spec = map (group_type (sets_of spec)) (enumerate_from 0 spec.groups.items) ++ map (λ (one : SetMeasure). one.measure.ty) spec.measures.items ++ number_column (sets_of spec)

-- the rows that a state gives
abbrev pub AreFinal : SetSpec → State → Rows → Type 0
AreFinal spec state out = (s : Stream Entry) → Holds spec s state → seen out ≡ rows_by spec s
