use Rattle.std.proofs.Common.{◌∙◌, ◌++◌, List, map, ap, Vec, ℕ, Global}
use Rattle.std.specs.List.{enumerate_from}
use Rattle.sub_types.specs.declared.kind.Ty.{Ty}
use Rattle.plan_typed.specs.declared.expr.Expr.{Expr}
use Rattle.plan_typed.specs.declared.rel.SetMeasure.{SetMeasure}
use Rattle.well_typed.specs.Columns.{group_type, number_column}
use Rattle.group_sets.proofs.types.types_in.Goals as goal

abbrev types_of : List Expr → List (Vec ℕ Global) → List SetMeasure → List Ty
types_of groups sets measures =
    map (group_type (map (λ (set : Vec ℕ Global). set.items) sets)) (enumerate_from 0 groups) ++ map (λ (one : SetMeasure). one.measure.ty) measures ++ number_column (map (λ (set : Vec ℕ Global). set.items) sets)

pub returns : goal.returns
returns c =
    let spec = c.args.spec.now in
    let groups = c.as_slice.result.now in
    let sets = c.as_slice-2.result.now in
    let measures = c.as_slice-3.result.now in
    c.in_ok-types.ensures
    ∙ ap (λ (l : List Expr). types_of l sets measures) c.as_slice.ensures.value
    ∙ ap (λ (l : List (Vec ℕ Global)). types_of spec.groups.items l measures) c.as_slice-2.ensures.value
    ∙ ap (types_of spec.groups.items spec.sets.items) c.as_slice-3.ensures.value
