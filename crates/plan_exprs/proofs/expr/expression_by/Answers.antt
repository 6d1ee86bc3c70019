use Rattle.plan_scan.specs.declared.oneof.OneOf.TheVariants.{RexType}
use Rattle.plan_raw.specs.declared.expr.RawExpr.TheVariants as expr
use Rattle.plan_parts.specs.Exprs.{expression_member}
use Rattle.plan_parts.specs.Reader.{reader}
use Rattle.plan_parts.proofs.ReaderLaws.{choice_read, choice_unknown}
use Rattle.plan_exprs.specs.Member.{expr_in}
use Rattle.plan_exprs.proofs.MemberLaws.{member_found, member_unknown}
use Rattle.plan_exprs.proofs.expr.expression_by.Goals as goal

pub returns-in-Some-default-None : goal.returns-in-Some-default-None
returns-in-Some-default-None g c =
    choice_unknown RexType (expression_member (reader c.args.choice.now.below)) expr.Unknown expr.Missing (member_unknown (reader c.args.choice.now.below))
    c.args.choice.now c.in-Some-default-None.number c.in-Some-default-None.field-0-1 c.requires.oneof c.in-Some-default-None.field-0-1-is
    (c.in-Some-default-None.ensures.number, c.in-Some-default-None.ensures.message)

pub returns-in-Some-default-Some : goal.returns-in-Some-default-Some
returns-in-Some-default-Some g c =
    choice_read RexType (λ levels. expression_member (reader levels)) (λ levels. expr_in (reader levels)) expr.Missing member_found
    c.args.choice.now c.in-Some-default-Some.number c.in-Some-default-Some.field-0-1 c.in-Some-default-Some.message c.member.result c.requires.oneof c.in-Some-default-Some.field-0-1-is
    (c.in-Some-default-Some.ensures.number, c.in-Some-default-Some.ensures.message) c.member.ensures
