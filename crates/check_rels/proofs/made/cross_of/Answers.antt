use Rattle.std.proofs.Common.{◌≡◌, ◌∙◌, ◌++◌, ap, List}
use Rattle.sub_types.specs.declared.kind.Ty.{Ty}
use Rattle.plan_typed.specs.declared.rel.Op.TheVariants as ops
use Rattle.plan_typed.specs.declared.rel.Rel.{Rel}
use Rattle.plan_typed.specs.Types.{columns_of}
use Rattle.plan_rules.proofs.HeldLaws.{if_found}
use Rattle.check_rels.proofs.MadeLaws.{finished_at}
use Rattle.check_rels.proofs.made.cross_of.Goals as goal

pub returns : goal.returns
returns c =
    let direct = columns_of c.args.left ++ columns_of c.args.right in
    let left = c.in_ok-columns.left in
    let right = c.in_ok-columns.right in
    let columns : c.as_slice-3.result.now ≡ direct =
    c.as_slice-3.ensures ∙ if_found (λ (both : List Ty). both ≡ c.as_slice.result.now ++ c.as_slice-2.result.now) c.joined-columns.result _ c.in_ok-columns.ensures.first c.joined-columns.ensures
    ∙ ap (λ (first : List Ty). first ++ c.as_slice-2.result.now) c.as_slice.ensures
    ∙ ap (λ (second : List Ty). columns_of c.args.left ++ second) c.as_slice-2.ensures in
    let first : left ≡ c.args.left = if_found (λ (both : Rel × Rel). both.0 ≡ c.args.left) c.boxed.result _ c.in_ok-columns.ensures.second c.boxed.ensures.left in
    let second : right ≡ c.args.right = if_found (λ (both : Rel × Rel). both.1 ≡ c.args.right) c.boxed.result _ c.in_ok-columns.ensures.second c.boxed.ensures.right in
    finished_at c.finished_in.result c.args.number c.args.common.now (ops.Cross left right) (ops.Cross c.args.left c.args.right) c.as_slice-3.result.now direct
    (ap (λ (rel : Rel). ops.Cross rel right) first ∙ ap (λ (rel : Rel). ops.Cross c.args.left rel) second) columns c.finished_in.ensures
