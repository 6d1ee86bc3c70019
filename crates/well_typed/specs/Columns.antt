-- The columns of relations, by those of their inputs.
use Rattle.std.specs.Prelude.{ℕ, List, [], ◌∷◌, ◌++◌, Bool, true, false, ◌&&◌, ◌||◌, not, ◌==◌, map, length, nat_le, slice_get, if◌then◌else◌}
use Rattle.std.specs.List.{list_all, list_any, enumerate_from, filter_map}
use Rattle.std.specs.Cmp.Lexicographic.{pointwise}
use Rattle.std.specs.Option.{option_map_or}
use Rattle.sub_types.specs.declared.kind.Kind.TheVariants as kinds
use Rattle.sub_types.specs.declared.kind.Ty.{Ty}
use Rattle.plan_typed.specs.declared.expr.Expr.{Expr}
use Rattle.plan_typed.specs.declared.rel.JoinKind.{JoinKind}
use Rattle.plan_typed.specs.declared.rel.JoinKind.TheVariants as joins
use Rattle.plan_typed.specs.declared.rel.SetOp.{SetOp}
use Rattle.plan_typed.specs.declared.rel.SetOp.TheVariants as sets
use Rattle.plan_typed.specs.Types.{ty_of}
use Rattle.func_table.specs.Kinds.{is_equal}

-- the most columns of a relation
abbrev pub MAX_COLUMNS : ℕ
MAX_COLUMNS = 1024

-- the most sets of groups of an aggregate
abbrev pub MAX_GROUPINGS : ℕ
MAX_GROUPINGS = 64

-- the columns at these places
abbrev pub columns_at : List Ty → List ℕ → List Ty
columns_at columns places = filter_map (slice_get columns) places

-- the same columns, which may be null
abbrev pub nullable : List Ty → List Ty
nullable columns = map (λ (column : Ty). record column { nullable = true }) columns

-- the columns of a join: an outer join may give nulls on the side that has no match
abbrev pub join_columns : JoinKind → List Ty → List Ty → List Ty
join_columns joins.Inner left right = left ++ right
join_columns joins.Outer left right = nullable left ++ nullable right
join_columns joins.Left left right = left ++ nullable right
join_columns joins.Right left right = nullable left ++ right
join_columns joins.LeftSemi left right = left
join_columns joins.LeftAnti left right = left

-- whether a column may be null, by whether it may in the first input and in each other
abbrev pub is_nullable_in : SetOp → Bool → List Bool → Bool
is_nullable_in sets.MinusPrimary first others = first
is_nullable_in sets.MinusPrimaryAll first others = first
is_nullable_in sets.IntersectionPrimary first others = first && list_any (λ other. other) others
is_nullable_in sets.IntersectionMultiset first others = first && list_all (λ other. other) others
is_nullable_in sets.IntersectionMultisetAll first others = first && list_all (λ other. other) others
is_nullable_in sets.UnionDistinct first others = first || list_any (λ other. other) others
is_nullable_in sets.UnionAll first others = first || list_any (λ other. other) others

-- the column at a place, which each input has
abbrev pub is_nullable_at : ℕ → List Ty → Bool
is_nullable_at place columns = option_map_or (λ column. column.nullable) (slice_get columns place) false

-- as many columns, of the same kinds in order
abbrev pub are_of_kinds : List Ty → List Ty → Bool
are_of_kinds first other = pointwise (λ a b. is_equal a.kind b.kind) first other

-- the columns of a set operation
abbrev pub set_columns : SetOp → List Ty → List (List Ty) → List Ty
set_columns op first others =
    map (λ (numbered : ℕ × Ty). record numbered.1 { nullable = is_nullable_in op numbered.1.nullable (map (is_nullable_at numbered.0) others) }) (enumerate_from 0 first)

-- the set has the place
abbrev pub has_place : ℕ → List ℕ → Bool
has_place place set = list_any (λ one. one == place) set

-- the type of a group's column, which is null for a set without it
abbrev pub group_type : List (List ℕ) → ℕ × Expr → Ty
group_type sets (place, expr) = record { kind = (ty_of expr).kind; nullable = (ty_of expr).nullable || not (list_all (has_place place) sets) }

-- the column with the number of the set, where there are several
abbrev pub number_column : List (List ℕ) → List Ty
number_column sets = if nat_le (length sets) 1 then [] else record { kind = kinds.I32; nullable = false } ∷ []
