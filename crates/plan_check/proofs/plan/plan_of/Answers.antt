-- A plan is checked step by step.
use Rattle.std.proofs.Common.{◌≡◌, [], ◌∷◌, true, Some, Ok, sym, subst, rules, arith}
use Rattle.std.specs.Prelude.{nat_le}
use Rattle.plan_tree.specs.Numbering.{relation_count}
use Rattle.plan_verdict.specs.Checking.{Comes}
use Rattle.plan_verdict.specs.Relation.{numbered}
use Rattle.plan_verdict.specs.Verdict.{MAX_RELATIONS, checked_rel}
use Rattle.plan_check.proofs.PlanLaws.{planned, single}
use Rattle.plan_check.proofs.plan.plan_of.Goals as goal

pub returns : goal.returns
returns c =
    let root = c.root-item.result in
    let input = c.get-input.result.now in
    let one : c.args.roots.now ≡ root ∷ [] = single c.args.roots.now root c.root-item.is (omega (arith, c.in-len1.len_at_least, c.in-len1.len_below)) in
    let is_root : root.is_root ≡ true = search rules in
    let is : root.input ≡ Some input = search rules in
    let few : nat_le (relation_count input) MAX_RELATIONS ≡ true = search (rules, arith) in
    let found : numbered (checked_rel c.args.terms.now input) c.args.progress ≡ Ok (c.in_ok-rel.rel, c.in_ok-rel.progress) = search rules in
    subst (λ checked. Comes c.named.result checked) (sym (planned c.args.terms.now c.args.roots.now root input c.in_ok-rel.rel c.args.progress c.in_ok-rel.progress one is_root is few found)) c.named.ensures
