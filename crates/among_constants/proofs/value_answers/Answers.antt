use Rattle.std.proofs.Common.{◌≡◌, ◌∙◌, ap, sym, subst}
use Rattle.sub_types.specs.Value.{InKind}
use Rattle.sub_types.specs.declared.kind.Kind.{Kind}
use Rattle.sub_types.specs.declared.kind.Kind.TheVariants as kinds
use Rattle.sub_types.specs.declared.kind.Ty.{Ty}
use Rattle.value_sets.specs.Sets.{has}
use Rattle.among_constants.proofs.UntilLaws.{answer_in_kind}
use Rattle.among_constants.proofs.value_answers.Goals as goal

pub push-requires : goal.push-requires
push-requires c =
    let kind : kinds.Bool ≡ c.loop-i.built.ty.kind = sym c.requires ∙ sym (ap (λ (ty : Ty). ty.kind) c.loop-i.invariant.1) in
    subst (λ (kind : Kind). InKind kind c.answer.result) kind (answer_in_kind (has c.args.set.now) c.in_ok-value.value c.answer.result c.answer.ensures)
