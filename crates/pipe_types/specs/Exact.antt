-- Pipelines over the types that the columns of their batches are stored with. A plan may take a column as nullable where it is not
-- stored so.
use Rattle.std.specs.Prelude.{ℕ, List, [], ◌++◌, Option, Some, None, map}
use Rattle.std.specs.List.{enumerate_from}
use Rattle.sub_types.specs.declared.kind.Ty.{Ty}
use Rattle.plan_typed.specs.declared.rel.SetMeasure.{SetMeasure}
use Rattle.plan_typed.specs.declared.rel.TypedMeasure.{TypedMeasure}
use Rattle.plan_typed.specs.Types.{ty_of}
use Rattle.well_typed.specs.Columns.{columns_at, join_columns, group_type, number_column}
use Rattle.rel_specs.specs.declared.join.JoinSpec.{JoinSpec}
use Rattle.plan_pipes.specs.declared.pipe.Breaker.{Breaker}
use Rattle.plan_pipes.specs.declared.pipe.Breaker.TheVariants as breakers
use Rattle.plan_pipes.specs.Run.{StepMeaning, Meaning}
use Rattle.plan_pipes.specs.RowMeaning.{sets_of}

-- what a join with a table stores for left rows that are stored with these types; none where no pipeline built a table
abbrev pub probed_types : Option JoinSpec → List Ty → List Ty
probed_types None given = given
probed_types (Some join) given = join_columns join.kind given join.right.items

-- what a breaker stores
abbrev pub gathered_types : Breaker → List Ty → List Ty
gathered_types (breakers.Aggregate spec) given = map ty_of spec.groups.items ++ map (λ (one : TypedMeasure). one.ty) spec.measures.items
gathered_types (breakers.GroupSets spec) given =
    map (group_type (sets_of spec)) (enumerate_from 0 spec.groups.items) ++ map (λ (one : SetMeasure). one.measure.ty) spec.measures.items ++ number_column (sets_of spec)
gathered_types _ given = given

abbrev pub exact_steps : StepMeaning (List Ty) (Option JoinSpec)
exact_steps = record {
  reading = λ relation types filter mask given. columns_at types mask;
  filter = λ relation condition given. given;
  project = λ relation exprs given. given ++ map ty_of exprs;
  keep = λ columns given. columns_at given columns;
  probe = probed_types;
  no_table = None;
}

-- over the types of the columns that read relations read, by their numbers
abbrev pub exact_over : (ℕ → List Ty) → Meaning (List Ty) (Option JoinSpec)
exact_over columns = record {
  read = columns;
  set = λ op types inputs. types;
  steps = exact_steps;
  gather = gathered_types;
  table = λ join given. Some join;
  no_stream = [];
}
