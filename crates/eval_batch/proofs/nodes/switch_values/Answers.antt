-- Each row has the value of the arm that it chooses.
use Rattle.std.proofs.Common.{rules, ◌≡◌, ◌∙◌, ◌+◌, ◌++◌, ◌∷◌, [], length, sym, ap, subst}
use Rattle.std.proofs.lemmas.List.{length-append}
use Rattle.plan_typed.specs.Types.{ty_of}
use Rattle.batch_nodes.specs.Parts.{AreChosen, arm_at}
use Rattle.batch_nodes.proofs.NodeUntil.{switch_valid, switch_kinds}
use Rattle.eval_batch.proofs.LoopLaws.{chosen_end}
use Rattle.eval_batch.proofs.ValueLaws.{switch_long, switch_choices, switch_made}
use Rattle.eval_batch.proofs.nodes.switch_values.Goals as goal

pub scatter-requires : goal.scatter-requires
scatter-requires c =
    let batch = c.args.batch.now in
    let arms = c.args.arms.now in
    let other = c.args.other.now in
    let rows = c.args.rows.now in
    let kind = c.args.ty.kind in
    let numbers = c.as_slice-numbers.result.now in
    let all = c.as_slice-all.result.now in
    let grown : c.push.new.self.items ≡ c.args.chosen.columns.items ++ c.args.rest ∷ [] = search rules in
    let all_is : all ≡ c.args.chosen.columns.items ++ c.args.rest ∷ [] = c.as_slice-all.ensures.value ∙ grown in
    let count : length all ≡ length arms + 1 = ap length all_is ∙ length-append c.args.chosen.columns.items (c.args.rest ∷ []) ∙ ap (λ n. n + 1) c.requires.count in
    let whole : AreChosen (arm_at arms other) batch rows c.args.chosen.choices.items kind (c.args.chosen.columns.items ++ c.args.rest ∷ []) =
    chosen_end arms other batch rows c.args.chosen.choices.items kind c.args.chosen.columns.items c.args.rest (length arms) c.requires.count (sym c.requires.count) (switch_kinds c.args.batch.now c.args.subject.now c.args.arms.now c.args.other.now c.args.ty c.requires.typed).1 c.requires.columns c.requires.rest in
    let chosen : AreChosen (arm_at arms other) batch rows numbers kind all =
    subst (λ numbers. AreChosen (arm_at arms other) batch rows numbers kind all) (sym c.as_slice-numbers.ensures.value) (subst (AreChosen (arm_at arms other) batch rows c.args.chosen.choices.items kind) (sym all_is) whole) in
    let of = (ty_of c.args.subject.now).kind in
    let places = c.as_slice-numbers.ensures.value ∙ c.requires.choices in
    record {
      valid_kind = switch_valid c.args.batch.now c.args.subject.now c.args.arms.now c.args.other.now c.args.ty c.requires.typed;
      kinds = chosen.kinds;
      chosen = switch_choices c.args.batch.now c.args.subject.now c.args.arms.now c.args.other.now c.args.ty c.requires.typed rows of c.args.subjects.now c.args.chosen.stop c.requires.subjects numbers places all count;
      long = switch_long c.args.batch.now c.args.subject.now c.args.arms.now c.args.other.now c.args.ty c.requires.typed rows of c.args.subjects.now c.args.chosen.stop c.requires.subjects numbers places;
    }

pub returns : goal.returns
returns c =
    let batch = c.args.batch.now in
    let arms = c.args.arms.now in
    let other = c.args.other.now in
    let rows = c.args.rows.now in
    let kind = c.args.ty.kind in
    let numbers = c.as_slice-numbers.result.now in
    let all = c.as_slice-all.result.now in
    let grown : c.push.new.self.items ≡ c.args.chosen.columns.items ++ c.args.rest ∷ [] = search rules in
    let all_is : all ≡ c.args.chosen.columns.items ++ c.args.rest ∷ [] = c.as_slice-all.ensures.value ∙ grown in
    let count : length all ≡ length arms + 1 = ap length all_is ∙ length-append c.args.chosen.columns.items (c.args.rest ∷ []) ∙ ap (λ n. n + 1) c.requires.count in
    let whole : AreChosen (arm_at arms other) batch rows c.args.chosen.choices.items kind (c.args.chosen.columns.items ++ c.args.rest ∷ []) =
    chosen_end arms other batch rows c.args.chosen.choices.items kind c.args.chosen.columns.items c.args.rest (length arms) c.requires.count (sym c.requires.count) (switch_kinds c.args.batch.now c.args.subject.now c.args.arms.now c.args.other.now c.args.ty c.requires.typed).1 c.requires.columns c.requires.rest in
    let chosen : AreChosen (arm_at arms other) batch rows numbers kind all =
    subst (λ numbers. AreChosen (arm_at arms other) batch rows numbers kind all) (sym c.as_slice-numbers.ensures.value) (subst (AreChosen (arm_at arms other) batch rows c.args.chosen.choices.items kind) (sym all_is) whole) in
    let of = (ty_of c.args.subject.now).kind in
    let places = c.as_slice-numbers.ensures.value ∙ c.requires.choices in
    switch_made c.args.batch.now c.args.subject.now c.args.arms.now c.args.other.now c.args.ty c.requires.typed rows of c.args.subjects.now c.args.chosen.stop c.requires.subjects numbers places all count chosen
    c.in_ok-column.column c.in_ok-column.stop c.in_ok-column.ensures.values c.in_ok-column.ensures.stop c.in_ok-column.ensures.ty
