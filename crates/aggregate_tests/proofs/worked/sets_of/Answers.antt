use Rattle.std.proofs.Common.{Vec, Global, ◌≡◌, ◌≤◌, ℕ, map, length, arith}
use Rattle.std.proofs.lemmas.List.{length-map}
use Rattle.std.proofs.lemmas.List.Elements.{recursion_from_All}
use Rattle.well_typed.specs.ExprTyped.{IsTypedOver}
use Rattle.well_typed.specs.WellTyped.{IsSetMeasureOver}
use Rattle.aggregate_tests.specs.Typed.{numbers}
use Rattle.aggregate_tests.proofs.worked.sets_of.Goals as goal

pub returns : goal.returns
returns c =
    let sets = c.in_ok-sets.sets.items in
    let as_many : length (map (λ (set : Vec ℕ Global). set.items) sets) ≡ length sets = length-map sets (λ (set : Vec ℕ Global). set.items) in
    let few : length (map (λ (set : Vec ℕ Global). set.items) sets) ≤ 64 = omega (arith, as_many, c.in_ok-sets.ensures) in
    record {
      kinds = (tt, (tt, tt));
      groups = recursion_from_All (IsTypedOver numbers) c.in_ok-groups.groups.items c.in_ok-groups.ensures;
      measures = recursion_from_All (IsSetMeasureOver numbers) c.in_ok-measures.measures.items c.in_ok-measures.ensures;
      few = few;
    }
