use Rattle.std.proofs.Common.{◌∙◌, ◌++◌, ap, map, Vec, ℕ, Global, List}
use Rattle.std.specs.List.{enumerate_from}
use Rattle.sub_types.specs.declared.kind.Ty.{Ty}
use Rattle.plan_typed.specs.declared.rel.SetMeasure.{SetMeasure}
use Rattle.well_typed.specs.Columns as spec
use Rattle.group_sets.proofs.types.types_over.Goals as goal

pub returns : goal.returns
returns c =
    let sets = map (λ (set : Vec ℕ Global). set.items) c.args.sets.now in
    let groups = map (spec.group_type sets) (enumerate_from 0 c.args.groups.now) in
    let measures = map (λ (one : SetMeasure). one.measure.ty) c.args.measures.now in
    let number = spec.number_column sets in
    c.in_ok-add_number.ensures ∙ ap (λ (l : List Ty). l ++ number) (c.in_ok-add_measures.ensures ∙ ap (λ (l : List Ty). l ++ measures) c.in_ok-types.ensures)
