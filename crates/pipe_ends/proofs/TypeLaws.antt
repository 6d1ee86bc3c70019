-- The types of an aggregate over several sets, by its parts.
use Rattle.std.proofs.Common.{Vec, Global, ◌≡◌, ◌∙◌, ℕ, List, [], ◌++◌, map, ap}
use Rattle.std.specs.List.{enumerate_from}
use Rattle.sub_types.specs.declared.kind.Ty.{Ty}
use Rattle.plan_typed.specs.declared.expr.Expr.{Expr}
use Rattle.plan_typed.specs.declared.rel.SetMeasure.{SetMeasure}
use Rattle.well_typed.specs.Columns.{group_type, number_column}
use Rattle.plan_pipes.specs.declared.pipe.Breaker.TheVariants as breakers
use Rattle.rel_specs.specs.declared.groups.SetSpec.{SetSpec}
use Rattle.pipe_types.specs.Exact.{gathered_types}

abbrev types_by : List Expr → List (List ℕ) → List SetMeasure → List Ty
types_by groups sets measures = map (group_type sets) (enumerate_from 0 groups) ++ map (λ (one : SetMeasure). one.measure.ty) measures ++ number_column sets

pub types_are : (spec : SetSpec) (groups : List Expr) (sets : List (List ℕ)) (measures : List SetMeasure) (given : List Ty) → groups ≡ spec.groups.items → sets ≡ map (λ (set : Vec ℕ Global). set.items) spec.sets.items → measures ≡ spec.measures.items
    → given ≡ map (group_type sets) (enumerate_from 0 groups) ++ map (λ (one : SetMeasure). one.measure.ty) measures ++ number_column sets → given ≡ gathered_types (breakers.GroupSets spec) []
types_are spec groups sets measures given groups_are sets_are measures_are is =
    is
    ∙ ap (λ (these : List Expr). types_by these sets measures) groups_are
    ∙ ap (λ (these : List (List ℕ)). types_by spec.groups.items these measures) sets_are
    ∙ ap (types_by spec.groups.items (map (λ (set : Vec ℕ Global). set.items) spec.sets.items)) measures_are
