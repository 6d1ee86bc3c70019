-- Each row has the value of the arm that it chooses.
use Rattle.std.proofs.Common.{rules, ◌≡◌, ◌∙◌, ◌+◌, ◌++◌, ◌∷◌, [], length, map, Ok, sym, ap, subst}
use Rattle.std.proofs.lemmas.List.{length-append}
use Rattle.plan_typed.specs.declared.expr.Expr.{Expr}
use Rattle.batch_nodes.specs.Chosen.{tried}
use Rattle.batch_nodes.specs.Evaluated.{eval_at}
use Rattle.batch_nodes.specs.Parts.{AreUntil, AreChosen, arm_at}
use Rattle.batch_nodes.proofs.NodeUntil.{if_valid, if_kinds}
use Rattle.batch_nodes.proofs.StepLaws.{AreUntil-length}
use Rattle.eval_batch.proofs.LoopLaws.{chosen_end}
use Rattle.eval_batch.proofs.ValueLaws.{if_choices, if_made}
use Rattle.eval_batch.proofs.nodes.if_values.Goals as goal

pub scatter-requires : goal.scatter-requires
scatter-requires c =
    let batch = c.args.batch.now in
    let arms = c.args.arms.now in
    let other = c.args.other.now in
    let rows = c.args.rows.now in
    let kind = c.args.ty.kind in
    let numbers = c.as_slice-numbers.result.now in
    let all = c.as_slice-all.result.now in
    let grown : c.push.new.self.items ≡ c.args.chosen.columns.items ++ c.args.rest ∷ [] = search rules in
    let all_is : all ≡ c.args.chosen.columns.items ++ c.args.rest ∷ [] = c.as_slice-all.ensures.value ∙ grown in
    let count : length all ≡ length arms + 1 = ap length all_is ∙ length-append c.args.chosen.columns.items (c.args.rest ∷ []) ∙ ap (λ n. n + 1) c.requires.count in
    let whole : AreChosen (arm_at arms other) batch rows c.args.chosen.choices.items kind (c.args.chosen.columns.items ++ c.args.rest ∷ []) =
    chosen_end arms other batch rows c.args.chosen.choices.items kind c.args.chosen.columns.items c.args.rest (length arms) c.requires.count (sym c.requires.count) (if_kinds c.args.batch.now c.args.arms.now c.args.other.now c.args.ty c.requires.typed).1 c.requires.columns c.requires.rest in
    let chosen : AreChosen (arm_at arms other) batch rows numbers kind all =
    subst (λ numbers. AreChosen (arm_at arms other) batch rows numbers kind all) (sym c.as_slice-numbers.ensures.value) (subst (AreChosen (arm_at arms other) batch rows c.args.chosen.choices.items kind) (sym all_is) whole) in
    let are = subst (λ numbers. AreUntil (λ i. tried (length arms) 0 (Ok (length arms)) (map (λ (arm : Expr × Expr). eval_at arm.0 batch i) arms)) rows numbers c.args.chosen.stop) (sym c.as_slice-numbers.ensures.value) c.requires.choices in
    record {
      valid_kind = if_valid c.args.batch.now c.args.arms.now c.args.other.now c.args.ty c.requires.typed;
      kinds = chosen.kinds;
      chosen = if_choices c.args.batch.now c.args.arms.now c.args.other.now c.args.ty c.requires.typed rows numbers c.args.chosen.stop are all count;
      long = AreUntil-length (λ i. tried (length arms) 0 (Ok (length arms)) (map (λ (arm : Expr × Expr). eval_at arm.0 batch i) arms)) rows numbers c.args.chosen.stop are;
    }

pub returns : goal.returns
returns c =
    let batch = c.args.batch.now in
    let arms = c.args.arms.now in
    let other = c.args.other.now in
    let rows = c.args.rows.now in
    let kind = c.args.ty.kind in
    let numbers = c.as_slice-numbers.result.now in
    let all = c.as_slice-all.result.now in
    let grown : c.push.new.self.items ≡ c.args.chosen.columns.items ++ c.args.rest ∷ [] = search rules in
    let all_is : all ≡ c.args.chosen.columns.items ++ c.args.rest ∷ [] = c.as_slice-all.ensures.value ∙ grown in
    let count : length all ≡ length arms + 1 = ap length all_is ∙ length-append c.args.chosen.columns.items (c.args.rest ∷ []) ∙ ap (λ n. n + 1) c.requires.count in
    let whole : AreChosen (arm_at arms other) batch rows c.args.chosen.choices.items kind (c.args.chosen.columns.items ++ c.args.rest ∷ []) =
    chosen_end arms other batch rows c.args.chosen.choices.items kind c.args.chosen.columns.items c.args.rest (length arms) c.requires.count (sym c.requires.count) (if_kinds c.args.batch.now c.args.arms.now c.args.other.now c.args.ty c.requires.typed).1 c.requires.columns c.requires.rest in
    let chosen : AreChosen (arm_at arms other) batch rows numbers kind all =
    subst (λ numbers. AreChosen (arm_at arms other) batch rows numbers kind all) (sym c.as_slice-numbers.ensures.value) (subst (AreChosen (arm_at arms other) batch rows c.args.chosen.choices.items kind) (sym all_is) whole) in
    let are = subst (λ numbers. AreUntil (λ i. tried (length arms) 0 (Ok (length arms)) (map (λ (arm : Expr × Expr). eval_at arm.0 batch i) arms)) rows numbers c.args.chosen.stop) (sym c.as_slice-numbers.ensures.value) c.requires.choices in
    if_made c.args.batch.now c.args.arms.now c.args.other.now c.args.ty c.requires.typed rows numbers c.args.chosen.stop are all count chosen
    c.in_ok-column.column c.in_ok-column.stop c.in_ok-column.ensures.values c.in_ok-column.ensures.stop c.in_ok-column.ensures.ty
