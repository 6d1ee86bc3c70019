use Rattle.std.proofs.Common.{[], get_or, take, false, sym, subst}
use Rattle.std.proofs.lemmas.List.{take_more}
use Rattle.sub_types.specs.declared.kind.Kind.TheVariants as kinds
use Rattle.sub_types.specs.declared.kind.Ty.{Ty}
use Rattle.arrow_write.specs.Bodies.{HasRows}
use Rattle.arrow_write.proofs.BodyLaws.{HasRows-more}
use Rattle.arrow_write.proofs.encoding.empty_body.Goals as goal

pub loop-ty-preserved : goal.loop-ty-preserved
loop-ty-preserved c =
    let types = c.args.types.now in
    let i = c.loop-ty.ty-index in
    let none : Ty = record { kind = kinds.Bool; nullable = false } in
    subst (λ ts. HasRows ts [] c.put_no_values.new.body) (sym (take_more types i none c.loop-ty-test.true))
    (HasRows-more (take i types) (get_or types i none) c.loop-ty.body c.put_no_values.new.body c.loop-ty.invariant c.in_ok-put_no_values.ensures.put c.in_ok-put_no_values.ensures.node)
