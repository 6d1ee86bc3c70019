use Rattle.plan_scan.specs.declared.oneof.OneOf.TheVariants.{RelType}
use Rattle.plan_raw.specs.declared.rel.RawRel.TheVariants as rel
use Rattle.plan_parts.specs.Rels.{rel_member}
use Rattle.plan_parts.specs.Reader.{reader}
use Rattle.plan_parts.proofs.ReaderLaws.{choice_read, choice_unknown}
use Rattle.plan_rels.specs.Member.{rel_in}
use Rattle.plan_rels.proofs.MemberLaws.{member_found, member_unknown}
use Rattle.plan_rels.proofs.rel.relation_by.Goals as goal

pub returns-in-Some-default-None : goal.returns-in-Some-default-None
returns-in-Some-default-None g c =
    choice_unknown RelType (rel_member (reader c.args.choice.now.below)) rel.Unknown rel.Missing (member_unknown (reader c.args.choice.now.below))
    c.args.choice.now c.in-Some-default-None.number c.in-Some-default-None.field-0-1 c.requires.oneof c.in-Some-default-None.field-0-1-is
    (c.in-Some-default-None.ensures.number, c.in-Some-default-None.ensures.message)

pub returns-in-Some-default-Some : goal.returns-in-Some-default-Some
returns-in-Some-default-Some g c =
    choice_read RelType (λ levels. rel_member (reader levels)) (λ levels. rel_in (reader levels)) rel.Missing member_found
    c.args.choice.now c.in-Some-default-Some.number c.in-Some-default-Some.field-0-1 c.in-Some-default-Some.message c.member.result c.requires.oneof c.in-Some-default-Some.field-0-1-is
    (c.in-Some-default-Some.ensures.number, c.in-Some-default-Some.ensures.message) c.member.ensures
