use Rattle.std.proofs.Common.{Vec, Global, ◌∙◌, ℕ, [], All, map, ap, subst, arith}
use Rattle.std.proofs.lemmas.List.{length-map}
use Rattle.std.proofs.lemmas.List.Elements.{recursion_from_All}
use Rattle.sub_types.specs.Kind.{IsKind}
use Rattle.sub_types.specs.Stream.{rows_alone}
use Rattle.sub_types.specs.declared.kind.Ty.{Ty}
use Rattle.batch.specs.Column.{column_type}
use Rattle.batch.specs.BatchRows.{types_of}
use Rattle.group_sets.specs.States.{IsOver}
use Rattle.pipe_parts.proofs.grouping.sets_of.Goals as goal

pub fold_batch-requires-clause-over : goal.fold_batch-requires-clause-over
fold_batch-requires-clause-over c =
    let types = types_of c.args.piece.batch in
    let kinds : All (λ (ty : Ty). IsKind ty.kind) types = subst (All (λ (ty : Ty). IsKind ty.kind)) (c.deref-2.ensures.value ∙ c.in_ok-types.ensures ∙ ap (map column_type) c.deref.ensures.value) (c.are_kinds.ensures.0 c.if-not-are_kinds.false) in
    let over : IsOver types c.args.spec.now = record {
      kinds = recursion_from_All (λ (ty : Ty). IsKind ty.kind) types kinds;
      groups = c.requires.over.0;
      measures = c.requires.over.3;
      few = omega (arith, length-map c.args.spec.now.sets.items (λ (set : Vec ℕ Global). set.items), c.args.spec.now.sets.ok.0);
    } in
    c.in_ok-partial.ensures.over types over

pub returns : goal.returns
returns c = (c.in_ok-_end.ensures.of (rows_alone []) c.in_ok-partial.ensures.of, c.in_ok-_end.ensures.over)
