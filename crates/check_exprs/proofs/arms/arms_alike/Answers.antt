use Rattle.std.proofs.Common.{◌∙◌, sym, ap, refl, ◌&&◌}
use Rattle.func_table.specs.Kinds.{is_equal}
use Rattle.plan_verdict.specs.Exprs.{kind_of}
use Rattle.check_exprs.proofs.ArmLaws.{arms_alike_by}
use Rattle.check_exprs.proofs.arms.arms_alike.Goals as goal

pub returns-then-arms_of_kind : goal.returns-then-arms_of_kind
returns-then-arms_of_kind c =
    let kind = c.kind_of-kind.result in
    ap (λ b. b && c.is_equal.result) (sym c.if-arms_of_kind.true)
    ∙ arms_alike_by c.args.arms.now c.in-Some.first.now c.in-Some.rest.now c.args.other.now kind c.arms_of_kind.result c.is_equal.result c.in-Some.ensures.cases.0 c.kind_of-kind.ensures c.arms_of_kind.ensures
    (c.is_equal.ensures ∙ ap (λ k. is_equal k kind) c.kind_of.ensures)

pub returns-else-arms_of_kind : goal.returns-else-arms_of_kind
returns-else-arms_of_kind c =
    let kind = c.kind_of-kind.result in
    let last = is_equal (kind_of c.args.other.now) kind in
    c.if-arms_of_kind.false
    ∙ ap (λ b. b && last) (sym c.if-arms_of_kind.false)
    ∙ arms_alike_by c.args.arms.now c.in-Some.first.now c.in-Some.rest.now c.args.other.now kind c.arms_of_kind.result last c.in-Some.ensures.cases.0 c.kind_of-kind.ensures c.arms_of_kind.ensures refl
